-- Ranges of positions of chunks: from a first one up to but without an end.
use Rattle.std.specs.Prelude.{◌<◌, ◌≤◌, ℕ, Bool, nat_lt, min, max}
use Rattle.pipe_columns.specs.declared.place.Place.{Place}

-- a place in a chunk of a range
pub record IsWithin (first end : ℕ) (p : Place) : Type 0 where
  pub above : first ≤ p.chunk
  pub below : p.chunk < end

-- whether two ranges share a number
abbrev pub share_number : ℕ → ℕ → ℕ → ℕ → Bool
share_number first end other_first other_end =
    nat_lt (max first other_first) (min end other_end)
