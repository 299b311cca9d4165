-- Of the proofs alone: rows that are put in the order of their partitions.
use Rattle.std.specs.Prelude.{ℕ, ◌+◌, List, [], ◌∷◌}
use Rattle.pipe_columns.specs.declared.any_value.AnyValue.{AnyValue}
use Rattle.pipe_columns.specs.declared.place.Place.{Place}

-- places that tell the numbers of keys, and where they stand from a number on
abbrev pub part_places : (List AnyValue → ℕ) → ℕ → List (List AnyValue) → List Place
part_places part i [] = []
part_places part i (k ∷ ks) = record { chunk = part k; row = i } ∷ part_places part (i + 1) ks

-- a value as a key
abbrev pub sole : AnyValue → List AnyValue
sole v = v ∷ []
