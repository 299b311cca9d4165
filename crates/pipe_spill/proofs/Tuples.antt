-- Tuples of values of given types, place by place.
use Rattle.std.proofs.Common.{◌≡◌, ◌++◌, ◌+◌, ◌<◌, ℕ, zero, suc, List, [], ◌∷◌, true, refl, length, drop, get_or, arith}
use Rattle.std.proofs.lemmas.List.{drop_more}
use Rattle.pipe_columns.specs.declared.data_type.DataType.{DataType}
use Rattle.pipe_columns.specs.declared.any_value.AnyValue.{AnyValue}
use Rattle.pipe_columns.specs.AnyValue.{fits}
use Rattle.pipe_columns.specs.Key.{code, value_code}
use Rattle.pipe_spill.specs.KeyTypes.{AreOfTypes}

-- as many values as types
pub as_long : (types : List DataType) (values : List AnyValue) → AreOfTypes types values → length values ≡ length types
as_long [] [] h = refl
as_long [] (v ∷ values) h = absurd h
as_long (t ∷ types) [] h = absurd h
as_long (t ∷ types) (v ∷ values) h = omega (arith, as_long types values h.1)

-- the value at a place fits the type there
pub fits_at : (types : List DataType) (values : List AnyValue) (i : ℕ) (t : DataType) (v : AnyValue)
    → AreOfTypes types values → i < length types → fits (get_or values i v) (get_or types i t) ≡ true
fits_at [] values i t v h b = absurd (omega arith)
fits_at (x ∷ types) [] i t v h b = absurd h
fits_at (x ∷ types) (y ∷ values) zero t v h b = h.0
fits_at (x ∷ types) (y ∷ values) (suc i) t v h b = fits_at types values i t v h.1 (omega arith)

-- the code of what is left of a tuple begins with that of its first value
pub code_at : (types : List DataType) (values : List AnyValue) (i : ℕ) (t : DataType) (v : AnyValue)
    → AreOfTypes types values → i < length types
    → code (drop i types) (drop i values)
    ≡ value_code (get_or types i t) (get_or values i v) ++ code (drop (i + 1) types) (drop (i + 1) values)
code_at types values i t v h b =
    let c : i < length values = omega (arith, as_long types values h) in
    rw (drop_more types i t b, drop_more values i v c) refl
