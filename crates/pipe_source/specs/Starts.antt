-- Of the proofs alone: the places where pieces of rows begin, as they are noted row by row.
use Rattle.std.specs.Prelude.{◌≡◌, ◌<◌, ◌+◌, ◌*◌, ℕ, List, length, get_or}
use Rattle.pipe_source.specs.Rows.{IsStart}
use Rattle.pipe_source.specs.declared.starts.Starts.{Starts}

-- of so many rows of a text the start of each piece is noted
pub record AreNoted (text : List ℕ) (at row : ℕ) (s : Starts) : Type 0 where
  pub each : (k : ℕ) → k < length s.places.items
      → (k * s.size < row) × IsStart text at (k * s.size) (get_or s.places.items k 0)
  pub count : row + s.until ≡ length s.places.items * s.size
