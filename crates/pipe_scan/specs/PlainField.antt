-- Of the proofs alone: fields without a quote that are looked at once.
use Rattle.std.specs.Prelude.{ℕ, ◌≡◌, ◌+◌, ◌==◌, ◌||◌, ◌≤◌, ◌<◌, ◌⊎◌, Bool, true, false, List, length, slice_index}
use Rattle.std.specs.Int.{from_bool}
use Rattle.pipe_scan.specs.Lines.{ends_line}
use Rattle.pipe_scan.specs.NextStop.{HasNone}

-- a byte that a field without quotes doesn't have
abbrev pub is_mark : ℕ → Bool
is_mark c = (c == 44) || (c == 34) || ends_line c

-- a byte that ends the last field of a row, or another one
abbrev pub EndsAs : Bool → ℕ → Type 0
EndsAs true c = (c ≡ 10) ⊎ (c ≡ 13)
EndsAs false c = c ≡ 44

-- a field goes from a place to the byte that ends it
pub record IsField (text : List ℕ) (is_last : Bool) (low end : ℕ) : Type 0 where
  pub order : low ≤ end
  pub within : end < length text
  pub inner : HasNone is_mark text low end
  pub ends : EndsAs is_last (slice_index text end)

-- behind the sign of a field from a place on, if it has one
abbrev pub behind_sign : List ℕ → ℕ → ℕ
behind_sign text low = low + from_bool (slice_index text low == 45)
