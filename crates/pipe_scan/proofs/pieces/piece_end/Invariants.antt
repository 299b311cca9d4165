use Rattle.std.proofs.Common.{◌+◌, ◌≡◌, ◌≤◌, ◌<◌, ℕ, false, get_or}
use Rattle.pipe_scan.specs.Lines.{ends_line}
use Rattle.pipe_scan.proofs.pieces.piece_end.Given as goal

-- no line has ended from where the piece may end on
abbrev pub invariant-loop-i : goal.invariant-loop-i
invariant-loop-i l = (k : ℕ) → l.at + l.size ≤ k + 1 → k < l.i → ends_line (get_or l.text k 0) ≡ false
