use Rattle.std.proofs.Common.{◌≡◌}
use Rattle.pipe_group_by.proofs.Numbering.{renumbered}
use Rattle.pipe_group_by.proofs.positions.set_positions.Given as goal

-- the chunks before have their positions
abbrev pub invariant-loop-number : goal.invariant-loop-number
invariant-loop-number l = l.chunks ≡ renumbered l.fn.first l.number l.fn.chunks
