-- A text in pieces.
use Rattle.std.specs.Prelude.{ℕ, ◌≡◌, ◌+◌, ◌-◌, ◌<◌, ◌≤◌, true, false, List, [], ◌∷◌, ◌++◌, length, min, slice_index}
use Rattle.csv.specs.Reading.{default_config, records}
use Rattle.pipe_scan.specs.Lines.{ends_line}
use Rattle.pipe_scan.specs.Records.{Records, between}

-- a piece of `size` bytes and so many more that it ends with a line, or of what the text has
pub record IsPiece (text : List ℕ) (size at end : ℕ) : Type 0 where
  pub more : at < length text → at < end
  pub within : end ≤ length text
  pub large : min (at + size) (length text) ≤ end
  pub line : end < length text → ends_line (slice_index text (end - 1)) ≡ true
  pub first : (k : ℕ) → at + size ≤ k + 1 → k + 1 < end → ends_line (slice_index text k) ≡ false

-- pieces lie one behind the other from a place on, up to the end of the text
abbrev pub ArePieces : List ℕ → ℕ → ℕ → List ℕ → Type 0
ArePieces text size at [] = at ≡ length text
ArePieces text size at (e ∷ es) = (at < e) × IsPiece text size at e × ArePieces text size e es

-- the records of pieces from a place on, each by itself
abbrev pub records_of_pieces : List ℕ → ℕ → List ℕ → Records
records_of_pieces text at [] = []
records_of_pieces text at (e ∷ es) =
    records default_config (between text at e) ++ records_of_pieces text e es
