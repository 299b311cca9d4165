-- The rows of a frame, one more at a time.
use Rattle.std.proofs.Common.{◌≡◌, ◌∙◌, ◌==◌, ◌+◌, ◌<◌, ◌∷◌, ◌++◌, [], ℕ, zero, suc, List, Some, length, take, map, get_or, true, refl, sym, ap, arith, append_assoc, append-nil}
use Rattle.std.specs.List.{flat_map, range_with_len, slice_get}
use Rattle.std.proofs.lemmas.Grind.{flat_map-append}
use Rattle.std.proofs.lemmas.Bool.{and_parts, eqb-true}
use Rattle.std.proofs.lemmas.List.{map-append, take_more}
use Rattle.std.proofs.lemmas.List.Folds.{flat_map-map}
use Rattle.std.proofs.lemmas.List.FromFn.{map-range_with_len_more}
use Rattle.pipe_columns.specs.declared.any_value.AnyValue.{AnyValue}
use Rattle.pipe_columns.specs.Frame.{ColumnData, all_have_height, row_at, value_at}
use Rattle.pipe_csv.specs.Texts.{field_of}

-- a column of a frame has a value for each row
pub length-column : (height : ℕ) (columns : List ColumnData) (i : ℕ) (column : ColumnData)
    → all_have_height height columns ≡ true → i < length columns → column ≡ get_or columns i column
    → length column.values ≡ height
length-column height [] i column all within is = absurd (omega arith)
length-column height (c ∷ cs) zero column all within is =
    let parts = and_parts (length c.values == height) (all_have_height height cs) all in
    ap (λ (x : ColumnData). length x.values) is ∙ eqb-true _ _ parts.0
length-column height (c ∷ cs) (suc i) column all within is =
    let parts = and_parts (length c.values == height) (all_have_height height cs) all in
    length-column height cs i column parts.1 (omega arith) is

-- one more column of a row
pub row_at-more : (columns : List ColumnData) (i n : ℕ) (column : ColumnData) (value : AnyValue)
    → i < length columns → column ≡ get_or columns i column → slice_get column.values n ≡ Some value
    → map field_of (row_at (take (i + 1) columns) n) ≡ map field_of (row_at (take i columns) n) ++ field_of value ∷ []
row_at-more columns i n column value within is found =
    let more = take_more columns i column within in
    let at : value_at column.values n ≡ value = rw found refl in
    rw (more, ← is, map-append, map-append, at) refl

-- one more turn of what each number gives
pub flat_map-range-more : (f : ℕ → List ℕ) (head : List ℕ) (n : ℕ)
    → head ++ flat_map f (range_with_len 0 (n + 1)) ≡ (head ++ flat_map f (range_with_len 0 n)) ++ f n
flat_map-range-more f head n =
    let plain : ℕ → ℕ = λ k. k in
    let more = map-range_with_len_more plain 0 n n (omega arith) in
    let turns : flat_map f (range_with_len 0 (n + 1)) ≡ flat_map f (range_with_len 0 n) ++ f n =
    sym (flat_map-map f plain (range_with_len 0 (n + 1))) ∙ ap (flat_map f) more ∙ flat_map-append f _ (n ∷ [])
    ∙ ap (λ t. t ++ flat_map f (n ∷ [])) (flat_map-map f plain (range_with_len 0 n)) ∙ ap (λ t. flat_map f (range_with_len 0 n) ++ t) (append-nil (f n)) in
    ap (λ t. head ++ t) turns ∙ sym (append_assoc head _ (f n))
