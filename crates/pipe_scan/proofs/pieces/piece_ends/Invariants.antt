use Rattle.std.proofs.Common.{◌-◌, length}
use Rattle.pipe_scan.proofs.PieceLists.{IsCut}
use Rattle.pipe_scan.proofs.pieces.piece_ends.Given as goal

abbrev pub invariant-loop-low : goal.invariant-loop-low
invariant-loop-low l = IsCut l.text l.size l.at l.low l.ends.items

abbrev pub decreases-loop-low : goal.decreases-loop-low
decreases-loop-low l = length l.text - l.low
