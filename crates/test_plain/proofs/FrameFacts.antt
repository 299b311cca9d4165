-- The frame of the answer, as its fields, rows and columns are made.
use Rattle.std.proofs.Common.{◌≡◌, ◌∙◌, ℕ, ◌+◌, ◌<◌, Bool, true, false, List, [], ◌∷◌, ◌++◌, length, map, get_or, set, take, drop, Option, Some, None, refl, sym, ap, arith, eq-eqb}
use Rattle.std.specs.Prelude.{IfNone, IsSome}
use Rattle.std.specs.List.{flat_map}
use Rattle.std.proofs.lemmas.List.{append-nil, drop_more, drop-set-lt, length-map, length-take-le, take_more}
use Rattle.std.proofs.lemmas.Grind.{flat_map-append}
use Rattle.pipe_columns.specs.declared.any_value.AnyValue.{AnyValue}
use Rattle.pipe_columns.specs.declared.schema.Field.{Field}
use Rattle.pipe_columns.specs.Frame.{all_have_height, ColumnData, columns_from, value_at}
use Rattle.pipe_running.specs.declared.function.AggregateFunction.{AggregateFunction}
use Rattle.pipe_running.specs.States.{given, output_values}

-- ---- rows

abbrev pub outputs_of : List AggregateFunction → List AnyValue
outputs_of states = flat_map (λ s. output_values (given s)) states

pub same_rest : {X : Type 0} (xs ys : List X) (j : ℕ) (x y : X) → j < length xs → j < length ys → x ≡ get_or xs j x → drop j xs ≡ drop j ys → (drop (j + 1) (set xs j y) ≡ drop (j + 1) ys) × (x ≡ get_or ys j x)
same_rest xs ys j x y h k e same =
    let here : get_or xs j x ∷ drop (j + 1) xs ≡ get_or ys j x ∷ drop (j + 1) ys = sym (drop_more xs j x h) ∙ same ∙ drop_more ys j x k in
    (drop-set-lt (j + 1) xs j y (omega arith) ∙ (cc here), cc (here, e))

-- what one more state gives
pub outputs_more : (states : List AggregateFunction) (j : ℕ) (s : AggregateFunction) → j < length states → s ≡ get_or states j s → outputs_of (take j states) ++ output_values (given s) ≡ outputs_of (take (j + 1) states)
outputs_more states j s h e =
    let longer : take (j + 1) states ≡ take j states ++ (s ∷ []) = take_more states j s h ∙ ap (λ (x : AggregateFunction). take j states ++ (x ∷ [])) (sym e) in
    sym (ap outputs_of longer ∙ flat_map-append (λ (x : AggregateFunction). output_values (given x)) (take j states) (s ∷ [])
    ∙ ap (λ (t : List AnyValue). outputs_of (take j states) ++ t) (append-nil (output_values (given s))))

-- ---- columns

columns_from-push : (i : ℕ) (fields : List Field) (f : Field) (rows : List (List AnyValue))
    → columns_from i (fields ++ (f ∷ [])) rows ≡ columns_from i fields rows ++ columns_from (i + length fields) (f ∷ []) rows
columns_from-push i [] f rows = ap (λ (k : ℕ). columns_from k (f ∷ []) rows) (omega arith)
columns_from-push i (g ∷ gs) f rows = ap (λ (t : List ColumnData). columns_from i (g ∷ []) rows ++ t) (columns_from-push (i + 1) gs f rows
    ∙ ap (λ (k : ℕ). columns_from (i + 1) gs rows ++ columns_from k (f ∷ []) rows) (omega arith))

-- the column of one more field
pub columns_from-more : (fields : List Field) (i : ℕ) (f : Field) (rows : List (List AnyValue)) → i < length fields → f ≡ get_or fields i f
    → columns_from 0 (take i fields) rows ++ columns_from i (f ∷ []) rows ≡ columns_from 0 (take (i + 1) fields) rows
columns_from-more fields i f rows h e =
    let longer : take (i + 1) fields ≡ take i fields ++ (f ∷ []) = take_more fields i f h ∙ ap (λ (x : Field). take i fields ++ (x ∷ [])) (sym e) in
    sym (ap (λ (fs : List Field). columns_from 0 fs rows) longer ∙ columns_from-push 0 (take i fields) f rows
    ∙ ap (λ (k : ℕ). columns_from 0 (take i fields) rows ++ columns_from k (f ∷ []) rows) (omega (arith, length-take-le i fields (omega arith))))

-- each column has a value a row
pub heights : (i : ℕ) (fields : List Field) (rows : List (List AnyValue)) → all_have_height (length rows) (columns_from i fields rows) ≡ true
heights i [] rows = refl
heights i (f ∷ fs) rows = rw (eq-eqb (length (map (λ row. value_at row i) rows)) (length rows) (length-map rows (λ row. value_at row i)), heights (i + 1) fs rows) refl

-- what is none only where a test fails is there where it passes
pub is_there : {X : Type 0} (r : Option X) (b : Bool) → IfNone r (b ≡ false) → b ≡ true → IsSome r
is_there None b e t = cc
is_there (Some x) b e t = refl
