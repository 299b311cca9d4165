-- What a query's aggregates save and give is what their running aggregates do.
use Rattle.std.proofs.Common.{◌≡◌, ◌∙◌, ◌+◌, ◌&&◌, ℕ, zero, suc, Bool, true, false, List, [], ◌∷◌, ◌++◌, map, length, drop, refl, sym, ap, arith}
use Rattle.std.specs.Prelude.{if◌then◌else◌}
use Rattle.std.specs.List.{flat_map, list_all}
use Rattle.std.proofs.lemmas.Bool.{and_parts, false≢true}
use Rattle.std.proofs.lemmas.List.{drop-drop, length-map}
use Rattle.pipe_columns.specs.declared.any_value.AnyValue.{AnyValue}
use Rattle.pipe_columns.specs.declared.data_type.DataType.{DataType}
use Rattle.pipe_columns.specs.declared.data_type.DataType.TheVariants as dt
use Rattle.pipe_columns.specs.declared.schema.Field.{Field}
use Rattle.pipe_columns.specs.Frame.{value_at}
use Rattle.pipe_running.specs.States.{first_type}
use Rattle.pipe_running.specs.declared.function.AggregateFunction.{AggregateFunction}
use Rattle.pipe_aggs.specs.HashAggs.{function_for, prototypes}
use Rattle.pipe_model.specs.Groupable.{is_suited, IsGroupable, suited}
use Rattle.pipe_model.specs.Kind.{Kind}
use Rattle.pipe_model.specs.Kind as kind
use Rattle.pipe_model.specs.Output.{agg_fields, input_type}
use Rattle.pipe_model.specs.Query.{AggTree, QueryTree}
use Rattle.pipe_states.specs.Fair.{can_give, can_give_all, result_types}
use Rattle.pipe_states.specs.Forms.{all_give, all_result_types, all_saved, all_saved_types, gives, is_mean, result_types_of, saved_of, saved_types_of, width}
use Rattle.pipe_states.specs.Regrouped.{column_count}
use Rattle.pipe_states.specs.StateText.{high_half, low_half, saved_agg, saved_aggs, saved_mean, saved_types, state_types}

-- what is saved of an aggregate: the types of its results, those of what is saved, what is saved of
-- the results in front, and which results it can give
pub record Form : Type 0 where
  results : List DataType
  saves : List DataType
  saved : List AnyValue → List AnyValue
  given : ℕ → AnyValue → AnyValue → Bool

-- that of a kind over values of a type
abbrev pub form_of_kind : Kind → DataType → Form
form_of_kind k t = record {
  results = map (λ f. f.dtype) (agg_fields [] k t);
  saves = saved_types k t;
  saved = saved_agg k t 0;
  given = can_give k t;
}

-- and that of a running aggregate
abbrev pub form_of : AggregateFunction → Form
form_of f = record { results = result_types_of f; saves = saved_types_of f; saved = saved_of f; given = gives f }

-- they are one where the kind has a running aggregate
pub forms_alike : (k : Kind) (t : DataType) → suited k t ≡ true → form_of_kind k t ≡ form_of (function_for k t)
forms_alike kind.sum dt.Boolean h = refl
forms_alike kind.sum dt.Int8 h = refl
forms_alike kind.sum dt.Int16 h = refl
forms_alike kind.sum dt.Int32 h = refl
forms_alike kind.sum dt.Int64 h = refl
forms_alike kind.sum dt.UInt8 h = refl
forms_alike kind.sum dt.UInt16 h = refl
forms_alike kind.sum dt.UInt32 h = refl
forms_alike kind.sum dt.UInt64 h = refl
forms_alike kind.sum dt.Int128 h = absurd (false≢true h)
forms_alike kind.sum dt.Date h = absurd (false≢true h)
forms_alike kind.sum dt.String h = refl
forms_alike kind.mean dt.Boolean h = refl
forms_alike kind.mean dt.Int8 h = refl
forms_alike kind.mean dt.Int16 h = refl
forms_alike kind.mean dt.Int32 h = refl
forms_alike kind.mean dt.Int64 h = refl
forms_alike kind.mean dt.UInt8 h = refl
forms_alike kind.mean dt.UInt16 h = refl
forms_alike kind.mean dt.UInt32 h = refl
forms_alike kind.mean dt.UInt64 h = refl
forms_alike kind.mean dt.Int128 h = absurd (false≢true h)
forms_alike kind.mean dt.Date h = absurd (false≢true h)
forms_alike kind.mean dt.String h = refl
forms_alike kind.min dt.Boolean h = absurd (false≢true h)
forms_alike kind.min dt.Int8 h = refl
forms_alike kind.min dt.Int16 h = refl
forms_alike kind.min dt.Int32 h = refl
forms_alike kind.min dt.Int64 h = refl
forms_alike kind.min dt.UInt8 h = refl
forms_alike kind.min dt.UInt16 h = refl
forms_alike kind.min dt.UInt32 h = refl
forms_alike kind.min dt.UInt64 h = refl
forms_alike kind.min dt.Int128 h = absurd (false≢true h)
forms_alike kind.min dt.Date h = absurd (false≢true h)
forms_alike kind.min dt.String h = absurd (false≢true h)
forms_alike kind.max dt.Boolean h = absurd (false≢true h)
forms_alike kind.max dt.Int8 h = refl
forms_alike kind.max dt.Int16 h = refl
forms_alike kind.max dt.Int32 h = refl
forms_alike kind.max dt.Int64 h = refl
forms_alike kind.max dt.UInt8 h = refl
forms_alike kind.max dt.UInt16 h = refl
forms_alike kind.max dt.UInt32 h = refl
forms_alike kind.max dt.UInt64 h = refl
forms_alike kind.max dt.Int128 h = absurd (false≢true h)
forms_alike kind.max dt.Date h = absurd (false≢true h)
forms_alike kind.max dt.String h = absurd (false≢true h)
forms_alike kind.first t h = refl
forms_alike kind.last t h = refl
forms_alike kind.count t h = refl
forms_alike kind.len t h = refl

-- ---- values from a position on

-- a value behind a position
pub value_at-drop : (j i : ℕ) (vs : List AnyValue) → value_at (drop j vs) i ≡ value_at vs (j + i)
value_at-drop zero i vs = ap (value_at vs) {x = i} {y = zero + i} (omega arith)
value_at-drop (suc j) i [] = refl
value_at-drop (suc j) i (v ∷ vs) = value_at-drop j i vs ∙ ap (value_at (v ∷ vs)) {x = suc (j + i)} {y = suc j + i} (omega arith)

-- the first value from a position on
pub value_here : (j : ℕ) (vs : List AnyValue) → value_at vs j ≡ value_at (drop j vs) 0
value_here j vs = ap (value_at vs) {x = j} {y = j + 0} (omega arith) ∙ sym (value_at-drop j 0 vs)

-- what is saved of a mean that is none of texts
pub both_here : (j : ℕ) (vs : List AnyValue)
    → high_half (value_at vs j) ∷ low_half (value_at vs j) ∷ value_at vs (j + 1) ∷ []
    ≡ high_half (value_at (drop j vs) 0) ∷ low_half (value_at (drop j vs) 0) ∷ value_at (drop j vs) (0 + 1) ∷ []
both_here j vs =
    let here = value_here j vs in
    let next = sym (value_at-drop j 1 vs) in
    λ i. high_half (here i) ∷ low_half (here i) ∷ next i ∷ []

-- what is saved of a mean from a position on
pub mean_here : (t : DataType) (j : ℕ) (vs : List AnyValue) → saved_mean t j vs ≡ saved_mean t 0 (drop j vs)
mean_here dt.Boolean j vs = both_here j vs
mean_here dt.Int8 j vs = both_here j vs
mean_here dt.Int16 j vs = both_here j vs
mean_here dt.Int32 j vs = both_here j vs
mean_here dt.Int64 j vs = both_here j vs
mean_here dt.UInt8 j vs = both_here j vs
mean_here dt.UInt16 j vs = both_here j vs
mean_here dt.UInt32 j vs = both_here j vs
mean_here dt.UInt64 j vs = both_here j vs
mean_here dt.Int128 j vs = both_here j vs
mean_here dt.Date j vs = both_here j vs
mean_here dt.String j vs = ap (λ v. v ∷ []) (value_here j vs)

-- and of any aggregate
pub saved_here : (k : Kind) (t : DataType) (j : ℕ) (vs : List AnyValue) → saved_agg k t j vs ≡ saved_agg k t 0 (drop j vs)
saved_here kind.sum t j vs = ap (λ v. v ∷ []) (value_here j vs)
saved_here kind.mean t j vs = mean_here t j vs
saved_here kind.min t j vs = ap (λ v. v ∷ []) (value_here j vs)
saved_here kind.max t j vs = ap (λ v. v ∷ []) (value_here j vs)
saved_here kind.first t j vs = ap (λ v. v ∷ []) (value_here j vs)
saved_here kind.last t j vs = ap (λ v. v ∷ []) (value_here j vs)
saved_here kind.count t j vs = ap (λ v. v ∷ []) (value_here j vs)
saved_here kind.len t j vs = ap (λ v. v ∷ []) (value_here j vs)

-- ---- the aggregates of a query

-- how many results a running aggregate gives
pub width_is : (f : AggregateFunction) → length (result_types_of f) ≡ width f
width_is f = by (is_mean f) where
  by : (b : Bool) → length (if b then dt.Int128 ∷ dt.UInt32 ∷ [] else first_type f ∷ []) ≡ (if b then 2 else 1)
  by true = refl
  by false = refl

module _ (schema : List Field) where
  -- the running aggregate of an aggregate
  abbrev running : AggTree → AggregateFunction
  running a = function_for a.kind (input_type schema a.input)

  -- it saves and gives what the aggregate does
  same_form : (a : AggTree) → is_suited schema a ≡ true → form_of_kind a.kind (input_type schema a.input) ≡ form_of (running a)
  same_form a h = forms_alike a.kind (input_type schema a.input) h

  -- and has aggs many results
  same_width : (a : AggTree) → is_suited schema a ≡ true → column_count a.kind (input_type schema a.input) ≡ width (running a)
  same_width a h =
      sym (length-map (agg_fields [] a.kind (input_type schema a.input)) (λ (f : Field). f.dtype))
      ∙ ap (λ (f : Form). length f.results) (same_form a h)
      ∙ width_is (running a)

  -- so do all, in the types of their results
  results_same : (aggs : List AggTree) → list_all (is_suited schema) aggs ≡ true
      → flat_map (λ a. map (λ f. f.dtype) (agg_fields [] a.kind (input_type schema a.input))) aggs ≡ all_result_types (map running aggs)
  results_same [] h = refl
  results_same (a ∷ aggs) h =
      let parts = and_parts (is_suited schema a) (list_all (is_suited schema) aggs) h in
      let form = same_form a parts.0 in
      let rest = results_same aggs parts.1 in
      λ i. (form i).results ++ rest i

  -- in those of what is saved
  saves_same : (aggs : List AggTree) → list_all (is_suited schema) aggs ≡ true
      → flat_map (λ a. saved_types a.kind (input_type schema a.input)) aggs ≡ all_saved_types (map running aggs)
  saves_same [] h = refl
  saves_same (a ∷ aggs) h =
      let parts = and_parts (is_suited schema a) (list_all (is_suited schema) aggs) h in
      let form = same_form a parts.0 in
      let rest = saves_same aggs parts.1 in
      λ i. (form i).saves ++ rest i

  -- in what is saved
  saved_same : (aggs : List AggTree) → list_all (is_suited schema) aggs ≡ true → (j : ℕ) (vs : List AnyValue)
      → saved_aggs j schema aggs vs ≡ all_saved (map running aggs) (drop j vs)
  saved_same [] h j vs = refl
  saved_same (a ∷ aggs) h j vs =
      let parts = and_parts (is_suited schema a) (list_all (is_suited schema) aggs) h in
      let t = input_type schema a.input in
      let front = saved_here a.kind t j vs ∙ ap (λ (f : Form). f.saved (drop j vs)) (same_form a parts.0) in
      let rest = saved_same aggs parts.1 (j + column_count a.kind t) vs
      ∙ ap (λ (n : ℕ). all_saved (map running aggs) (drop (j + n) vs)) (same_width a parts.0)
      ∙ ap (all_saved (map running aggs)) (sym (drop-drop (width (running a)) j vs)) in
      λ i. front i ++ rest i

  -- and in the results that they can give
  gives_same : (aggs : List AggTree) → list_all (is_suited schema) aggs ≡ true → (j rows : ℕ) (vs : List AnyValue)
      → can_give_all j schema aggs rows vs ≡ all_give (map running aggs) rows (drop j vs)
  gives_same [] h j rows vs = refl
  gives_same (a ∷ aggs) h j rows vs =
      let parts = and_parts (is_suited schema a) (list_all (is_suited schema) aggs) h in
      let t = input_type schema a.input in
      let form = same_form a parts.0 in
      let here = value_here j vs in
      let next = sym (value_at-drop j 1 vs) in
      let rest = gives_same aggs parts.1 (j + column_count a.kind t) rows vs
      ∙ ap (λ (n : ℕ). all_give (map running aggs) rows (drop (j + n) vs)) (same_width a parts.0)
      ∙ ap (all_give (map running aggs) rows) (sym (drop-drop (width (running a)) j vs)) in
      λ i. (form i).given rows (here i) (next i) && rest i

-- ---- a query

module _ (q : QueryTree) (g : IsGroupable q) where
  -- the types of the results of its rows
  pub result_types-are : result_types q ≡ all_result_types (prototypes q)
  result_types-are = results_same q.schema q.aggs g.aggs

  -- the types in which its rows are saved
  pub state_types-are : state_types q ≡ dt.UInt32 ∷ dt.UInt32 ∷ dt.UInt32 ∷ all_saved_types (prototypes q)
  state_types-are = ap (λ (ts : List DataType). dt.UInt32 ∷ dt.UInt32 ∷ dt.UInt32 ∷ ts) (saves_same q.schema q.aggs g.aggs)

  -- what is saved of results
  pub saved-are : (results : List AnyValue) → saved_aggs 0 q.schema q.aggs results ≡ all_saved (prototypes q) results
  saved-are results = saved_same q.schema q.aggs g.aggs 0 results

  -- which results can be given
  pub gives-are : (rows : ℕ) (results : List AnyValue) → can_give_all 0 q.schema q.aggs rows results ≡ all_give (prototypes q) rows results
  gives-are rows results = gives_same q.schema q.aggs g.aggs 0 rows results
