use Rattle.std.proofs.Common.{◌≡◌, map, take}
use Rattle.pipe_spill.specs.SpillRow.{spilled}
use Rattle.pipe_groups.proofs.eval.owned_rows.Given as goal

-- the rows so far
abbrev pub invariant-loop-row : goal.invariant-loop-row
invariant-loop-row l = l.owned.items ≡ map (spilled l.types) (take l.row l.rows)
