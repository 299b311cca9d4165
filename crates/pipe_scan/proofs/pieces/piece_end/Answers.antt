use Rattle.std.proofs.Common.{arith, refl}
use Rattle.pipe_scan.proofs.PieceEnds.{piece_at_end, piece_at_line}
use Rattle.pipe_scan.proofs.pieces.piece_end.Goals as goal
use Rattle.pipe_scan.proofs.pieces.piece_end.Goals.{then-text-i-eq10-via-then-text-i-eq10, then-text-i-eq10-via-else-text-i-eq10+then-text-i-eq13}

pub returns-then-text-at-clause-records : goal.returns-then-text-at-clause-records
returns-then-text-at-clause-records c = piece_at_end c.args.text.now c.args.at c.requires.within

pub returns-then-text-i-eq10-clause-records : goal.returns-then-text-i-eq10-clause-records
returns-then-text-i-eq10-clause-records c = elim c.then-text-i-eq10.branch [
  | then-text-i-eq10-via-then-text-i-eq10 w ↦ piece_at_line c.args.text.now c.args.at c.loop-i.i (omega (arith, c.loop-i.auto.i, c.requires.size)) c.loop-i-test.true (rw w.if-text-i-eq10.true refl)
  | then-text-i-eq10-via-else-text-i-eq10+then-text-i-eq13 w ↦ piece_at_line c.args.text.now c.args.at c.loop-i.i (omega (arith, c.loop-i.auto.i, c.requires.size)) c.loop-i-test.true (rw w.if-text-i-eq13.true refl)
]

pub returns-clause-records : goal.returns-clause-records
returns-clause-records c = piece_at_end c.args.text.now c.args.at c.requires.within
