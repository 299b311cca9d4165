-- Runs of values in rows that follow one another.
use Rattle.std.specs.Prelude.{ℕ, ◌+◌, List, [], ◌∷◌}
use Rattle.pipe_columns.specs.declared.any_value.AnyValue.{AnyValue}
use Rattle.pipe_columns.specs.declared.place.Place.{Place}

-- a state with the values of the rows of a chunk from one on, one by one
abbrev pub after_run : {S : Type 0} → (Place → AnyValue → S → S) → ℕ → ℕ → List AnyValue → S → S
after_run after chunk row [] s = s
after_run after chunk row (v ∷ vs) s =
    after_run after chunk (row + 1) vs (after (record { chunk = chunk; row = row }) v s)

-- what stands in those rows, with their places
abbrev pub placed : {V : Type 0} → ℕ → ℕ → List V → List (Place × V)
placed chunk row [] = []
placed chunk row (v ∷ vs) = (record { chunk = chunk; row = row }, v) ∷ placed chunk (row + 1) vs
