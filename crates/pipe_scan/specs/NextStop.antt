-- Of the proofs alone: the next byte of a kind in a text, as the next stop.
use Rattle.std.specs.Prelude.{ℕ, ◌≡◌, ◌<◌, ◌≤◌, Bool, true, false, List, length, slice_index}
use Rattle.pipe_scan.specs.Stops.{is_stop}

-- no byte of a kind lies between two places
abbrev pub HasNone : (ℕ → Bool) → List ℕ → ℕ → ℕ → Type 0
HasNone kind text low high =
    (k : ℕ) → low ≤ k → k < high → kind (slice_index text k) ≡ false

-- the first byte of a kind from a place on, or the end of the text
pub record IsNext (kind : ℕ → Bool) (text : List ℕ) (at next : ℕ) : Type 0 where
  pub low : at ≤ next
  pub high : next ≤ length text
  pub before : HasNone kind text at next
  pub is : next < length text → kind (slice_index text next) ≡ true

-- the first stop from a place on, or the end of the text
abbrev pub IsNextStop : List ℕ → ℕ → ℕ → Type 0
IsNextStop text at stop = IsNext is_stop text at stop

-- the first byte of a kind from a place on, which the text has
abbrev pub IsSeen : (ℕ → Bool) → List ℕ → ℕ → ℕ → Type 0
IsSeen kind text at place = IsNext kind text at place × (place < length text)
