-- Lists of one value and of two.
use Rattle.std.proofs.Common.{◌≡◌, ◌∙◌, ◌<◌, ℕ, List, [], ◌∷◌, length, get_or, refl, ap, arith}
use Rattle.std.proofs.lemmas.Option.{unwrap_or-slice_get}
use Rattle.pipe_columns.specs.declared.any_value.AnyValue.{AnyValue}
use Rattle.pipe_columns.specs.Frame.{value_at}
use Rattle.pipe_columns.specs.Row.{Row}
use Rattle.pipe_inputs.specs.ChunkRows.{no_row, row_at}

-- a list of one value
pub list-one : (xs : List AnyValue) (v : AnyValue) → length xs ≡ 1 → v ≡ value_at xs 0 → v ∷ [] ≡ xs
list-one [] v l e = absurd (omega (arith, l))
list-one (x ∷ []) v l e = rw e refl
list-one (x ∷ y ∷ xs) v l e = absurd (omega (arith, l))

-- a list of two
pub list-two : (xs : List AnyValue) (v w : AnyValue) → length xs ≡ 2 → v ≡ value_at xs 0 → w ≡ value_at xs 1 → v ∷ w ∷ [] ≡ xs
list-two [] v w l e f = absurd (omega (arith, l))
list-two (x ∷ []) v w l e f = absurd (omega (arith, l))
list-two (x ∷ y ∷ []) v w l e f = rw (e, f) refl
list-two (x ∷ y ∷ z ∷ xs) v w l e f = absurd (omega (arith, l))

-- how many inputs a row has, of rows that all have as many
pub inputs-many : (rows : List Row) (n many : ℕ) → ((k : ℕ) (d : Row) → k < length rows → length (get_or rows k d).inputs ≡ many) → n < length rows → length (row_at rows n).inputs ≡ many
inputs-many rows n many all lt = ap (λ (r : Row). length r.inputs) (unwrap_or-slice_get rows n no_row) ∙ all n no_row lt
