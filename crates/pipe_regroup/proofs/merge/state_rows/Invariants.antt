use Rattle.std.proofs.Common.{◌≡◌, map}
use Rattle.pipe_regroup.specs.Groups.{group_row}
use Rattle.pipe_regroup.proofs.merge.state_rows.Given as goal

-- the rows of the groups so far
abbrev pub invariant-loop-group : goal.invariant-loop-group
invariant-loop-group l = l.rows.items ≡ map group_row l.yielded
