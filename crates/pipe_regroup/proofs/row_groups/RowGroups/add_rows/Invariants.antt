use Rattle.std.proofs.Common.{take}
use Rattle.pipe_regroup.specs.Groups.{HasAdded}
use Rattle.pipe_regroup.proofs.row_groups.RowGroups.add_rows.Given as goal

-- the rows so far are added
abbrev pub invariant-loop-row : goal.invariant-loop-row
invariant-loop-row l = record { added : HasAdded l.fn.self l.self (take l.row-index l.rows) }
