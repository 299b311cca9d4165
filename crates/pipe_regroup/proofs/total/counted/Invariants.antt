use Rattle.std.proofs.Common.{◌≡◌, take}
use Rattle.pipe_regroup.specs.Groups.{count_rows}
use Rattle.pipe_regroup.proofs.total.counted.Given as goal

-- the rows so far
abbrev pub invariant-loop-row : goal.invariant-loop-row
invariant-loop-row l = l.sum ≡ count_rows (take l.row-index l.rows)
