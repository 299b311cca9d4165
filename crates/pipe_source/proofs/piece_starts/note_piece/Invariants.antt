use Rattle.std.proofs.Common.{◌≡◌, ◌+◌, ◌-◌, ◌≤◌, ℕ}
use Rattle.pipe_source.specs.Rows.{IsStart}
use Rattle.pipe_source.specs.Starts.{AreNoted}
use Rattle.pipe_source.proofs.piece_starts.note_piece.Given as goal

-- but for the rows that are left, those of the piece are noted
abbrev pub invariant-loop-starts : goal.invariant-loop-starts
invariant-loop-starts l = record {
  within : l.left ≤ l.piece.count;
  size : l.starts.size ≡ l.fn.starts.size;
  noted : (at before : ℕ) → AreNoted l.text at before l.fn.starts → IsStart l.text at before l.piece.low → AreNoted l.text at (before + (l.piece.count - l.left)) l.starts;
}

abbrev pub decreases-loop-starts : goal.decreases-loop-starts
decreases-loop-starts l = l.left
