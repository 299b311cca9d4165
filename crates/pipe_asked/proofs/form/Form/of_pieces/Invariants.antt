use Rattle.std.proofs.Common.{length}
use Rattle.pipe_asked.proofs.PieceFacts.{IsFront}
use Rattle.pipe_asked.proofs.form.Form.of_pieces.Given as goal

-- the whole has the groups of the pieces so far, and the others are left
abbrev pub invariant-rest : goal.invariant-rest
invariant-rest g l = IsFront (g.Self.Form.is l.self) l.fn.pieces l.pieces l.whole

-- how many are left
abbrev pub decreases-rest : goal.decreases-rest
decreases-rest g l = length l.pieces.left
