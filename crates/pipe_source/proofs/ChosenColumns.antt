-- Columns of the wanted fields of rows.
use Rattle.std.proofs.Common.{◌≡◌, ◌∙◌, ◌≤◌, ◌<◌, ℕ, Bool, true, false, List, [], ◌∷◌, ◌++◌, length, replicate, get_or, set, Option, Some, None, option_map, refl, sym, ap, arith}
use Rattle.pipe_columns.specs.declared.any_value.AnyValue.{AnyValue}
use Rattle.pipe_columns.specs.declared.schema.Field.{Field}
use Rattle.pipe_columns.specs.Frame.{ColumnData}
use Rattle.pipe_csv.specs.Columns.{DoHold, column_of, columns_of, values_from, with_row}
use Rattle.std.proofs.lemmas.List.{get_or_default}
use Rattle.pipe_csv.proofs.ColumnFacts.{length-with_row, with_row-more}
use Rattle.pipe_csv.proofs.PieceFacts.{values-none}
use Rattle.narrow_columns.specs.Wanted.{chosen, is_wanted}
use Rattle.narrow_columns.proofs.ChosenFacts.{chosen-behind, chosen-copies, push-kept}
use Rattle.pipe_source.specs.CsvChunks.{with_first, with_last}

-- no column takes a value
with_row-nil : (vs : List AnyValue) → with_row vs [] ≡ []
with_row-nil [] = refl
with_row-nil (v ∷ vs) = refl

-- the wanted values of a row go to the wanted columns
pub chosen-row : (ws : List Bool) (vs : List AnyValue) (cs : List (List AnyValue)) → with_row (chosen ws vs) (chosen ws cs) ≡ chosen ws (with_row vs cs)
chosen-row [] vs cs = refl
chosen-row (w ∷ ws) [] cs = refl
chosen-row (w ∷ ws) (v ∷ vs) [] = with_row-nil (chosen (w ∷ ws) (v ∷ vs))
chosen-row (true ∷ ws) (v ∷ vs) (c ∷ cs) = ap (λ (t : List (List AnyValue)). (c ++ (v ∷ [])) ∷ t) (chosen-row ws vs cs)
chosen-row (false ∷ ws) (v ∷ vs) (c ∷ cs) = chosen-row ws vs cs

-- columns of no values
pub chosen-none : (ws : List Bool) (fs : List Field) → replicate (length (chosen ws fs)) [] ≡ chosen ws (values_from 0 fs [])
chosen-none ws fs = sym (ap (chosen ws) (values-none 0 fs) ∙ chosen-copies ws fs (let none : List AnyValue = [] in none))

-- wanted columns hold values of the wanted fields
pub chosen-hold : (n : ℕ) (ws : List Bool) (fs : List Field) (cs : List (List AnyValue)) → DoHold n fs cs → DoHold n (chosen ws fs) (chosen ws cs)
chosen-hold n [] fs cs h = h
chosen-hold n (w ∷ ws) [] cs h = tt
chosen-hold n (w ∷ ws) (f ∷ fs) [] h = absurd h
chosen-hold n (true ∷ ws) (f ∷ fs) (c ∷ cs) h = (h.0, h.1, chosen-hold n ws fs cs h.2)
chosen-hold n (false ∷ ws) (f ∷ fs) (c ∷ cs) h = chosen-hold n ws fs cs h.2

-- no field has no column
columns-nil : (fs : List Field) → columns_of fs [] ≡ []
columns-nil [] = refl
columns-nil (f ∷ fs) = refl

-- the columns of the wanted fields are the wanted columns
pub chosen-columns : (ws : List Bool) (fs : List Field) (cs : List (List AnyValue)) → columns_of (chosen ws fs) (chosen ws cs) ≡ chosen ws (columns_of fs cs)
chosen-columns [] fs cs = refl
chosen-columns (w ∷ ws) [] cs = refl
chosen-columns (w ∷ ws) (f ∷ fs) [] = columns-nil (chosen (w ∷ ws) (f ∷ fs))
chosen-columns (true ∷ ws) (f ∷ fs) (c ∷ cs) = ap (λ (t : List ColumnData). column_of f c ∷ t) (chosen-columns ws fs cs)
chosen-columns (false ∷ ws) (f ∷ fs) (c ∷ cs) = chosen-columns ws fs cs

-- what stands at both ends is wanted
pub chosen-ends : {A : Type 0} (first : Option A) (ws : List Bool) (xs : List A) (last : Option A) → length ws ≤ length xs
    → chosen (with_first (option_map (λ (x : A). true) first) ws) (with_first first (with_last xs last)) ≡ with_first first (with_last (chosen ws xs) last)
chosen-ends None ws xs None h = refl
chosen-ends None ws xs (Some y) h = chosen-behind ws xs (y ∷ []) h
chosen-ends (Some x) ws xs None h = refl
chosen-ends (Some x) ws xs (Some y) h = ap (λ t. x ∷ t) (chosen-behind ws xs (y ∷ []) h)

-- a value of a row goes to the end of the column at its place
pub push-at : (columns : List (List AnyValue)) (i : ℕ) (old new : List AnyValue) (done : List AnyValue) (v : AnyValue) (before : List (List AnyValue))
    → columns ≡ with_row done before → length done ≡ i → i < length columns → old ≡ get_or columns i old → new ≡ old ++ (v ∷ []) → set columns i new ≡ with_row (done ++ (v ∷ [])) before
push-at columns i old new done v before e n h o p =
    let size : length columns ≡ length before = ap length e ∙ length-with_row done before in
    let was : get_or (with_row done before) (length done) [] ≡ old =
    ap (λ (t : List (List AnyValue)). get_or t (length done) []) (sym e) ∙ ap (λ (k : ℕ). get_or columns k []) n ∙ get_or_default columns i [] old h ∙ sym o in
    ap (λ (t : List (List AnyValue)). set t i new) e
    ∙ ap (λ (t : List AnyValue). set (with_row done before) i t) (p ∙ ap (λ (t : List AnyValue). t ++ (v ∷ [])) (sym was))
    ∙ ap (λ (k : ℕ). set (with_row done before) k (get_or (with_row done before) (length done) [] ++ (v ∷ []))) (sym n)
    ∙ sym (with_row-more done v before (omega (arith, size, n, h)))

-- a wanted value goes to the end of the next wanted column
pub push-wanted : (ws : List Bool) (columns : List (List AnyValue)) (i : ℕ) (old new : List AnyValue) (done : List AnyValue) (v : AnyValue) (before : List (List AnyValue))
    → is_wanted ws (length done) ≡ true → columns ≡ with_row (chosen ws done) before → i ≡ length (chosen ws done) → i < length columns → old ≡ get_or columns i old → new ≡ old ++ (v ∷ [])
    → set columns i new ≡ with_row (chosen ws (done ++ (v ∷ []))) before
push-wanted ws columns i old new done v before w e n h o p =
    push-at columns i old new (chosen ws done) v before e (sym n) h o p ∙ ap (λ (t : List AnyValue). with_row t before) (sym (push-kept ws done v w))
