-- The state of rows of a query's types is a state of the query.
use Rattle.std.proofs.Common.{◌≡◌, ◌∙◌, ℕ, suc, ◌+◌, ◌<◌, ◌≤◌, ◌^◌, ℤ, pos, negsuc, ◌+ℤ◌, true, false, List, [], ◌∷◌, ◌++◌, length, map, All, append_assoc, length-append, ltb-true, inl, inr, refl, sym, ap, subst, arith}
use Rattle.std.specs.List.{list_all}
use Rattle.std.proofs.lemmas.Int.{ints}
use Rattle.std.proofs.lemmas.List.Elements.{All-cons, All-head, All-map, All-nil, All-tail, All-weaker}
use Rattle.pipe_columns.specs.declared.any_value.AnyValue.{AnyValue}
use Rattle.pipe_columns.specs.declared.any_value.AnyValue.TheVariants as av
use Rattle.pipe_columns.specs.declared.data_type.DataType.{DataType}
use Rattle.pipe_columns.specs.declared.data_type.DataType.TheVariants as dt
use Rattle.pipe_columns.specs.declared.place.Place.{Place}
use Rattle.pipe_columns.specs.declared.schema.Field.{Field}
use Rattle.pipe_columns.specs.AnyValue.{fits, fits_number, HasUtf8, is_signed, is_unsigned}
use Rattle.pipe_columns.specs.Frame.{value_at}
use Rattle.pipe_columns.specs.Row.{Row}
use Rattle.pipe_columns.proofs.AscendingFacts.{sorted-from}
use Rattle.pipe_columns.proofs.ElementFacts.{all_at, Has}
use Rattle.pipe_model.specs.Aggregate.{addend, agg, counted, exact_sum, present, sum_if_any, values_in}
use Rattle.pipe_model.specs.Answer.{aggs_from, inputs_at, rows_at, tuple_cmp}
use Rattle.pipe_model.specs.Groupable.{IsGroupable, is_suited, suited}
use Rattle.pipe_model.specs.Kind.{Kind}
use Rattle.pipe_model.specs.Kind as kind
use Rattle.pipe_model.specs.Output.{input_type, key_types}
use Rattle.pipe_model.specs.Query.{AggTree, QueryTree}
use Rattle.pipe_model.specs.Rows.{keys_of}
use Rattle.pipe_spill.specs.KeyTypes.{AreOfTypes, IsTuple}
use Rattle.pipe_spill.specs.SpillRow.{HasValues}
use Rattle.pipe_states.specs.Fair.{IsRowOf, IsStateOf}
use Rattle.pipe_states.specs.Parts.{Part, saved}
use Rattle.pipe_states.specs.Regrouped.{column_count}
use Rattle.pipe_states.specs.States.{state_row, state_rows, tuples_of}
use Rattle.pipe_states.specs.declared.state_row.StateRow.{StateRow}
use Rattle.pipe_states.proofs.FairFacts.{entries_hold, rows-few}
use Rattle.pipe_states.proofs.GivenRows.{AreGood, more-good, none-good}
use Rattle.pipe_states.proofs.GoodFacts.{AreHalves, count-good, first-good, Fit, greatest-good, IsGood, IsSmall, last-good, least-good, len-good, mean-good, mean_values, small-both, small-none, sum-halves, total-good}
use Rattle.pipe_states.proofs.HalfFacts.{both_true}
use Rattle.pipe_states.proofs.MergedFair.{sum-has}
use Rattle.pipe_states.proofs.SummaryFacts.{Entries}
use Rattle.pipe_states.proofs.TextFacts.{value-first}
use Rattle.pipe_states.proofs.TupleFacts.{has-image, image-of}
use Rattle.pipe_states.proofs.ValueFacts.{exact_sum-cons}

-- ---- means

-- a number with a sign of up to 64 bits
pub signed-small : (b : ℕ) (n : ℤ) → 2 ^ b ≤ 2 ^ 64 → is_signed b n ≡ true → IsSmall n 1
signed-small b (pos n) le e = let h = ltb-true n (2 ^ b) e in record { above = omega (arith, ints); below = omega (arith, ints) }
signed-small b (negsuc n) le e = let h = ltb-true n (2 ^ b) e in record { above = omega (arith, ints); below = omega (arith, ints) }

-- and one without
pub unsigned-small : (b : ℕ) (n : ℤ) → 2 ^ b ≤ 2 ^ 64 → is_unsigned b n ≡ true → IsSmall n 1
unsigned-small b (pos n) le e = let h = ltb-true n (2 ^ b) e in record { above = omega (arith, ints); below = omega (arith, ints) }
unsigned-small b (negsuc n) le e = cc

-- a number of a type that has a mean
pub number-small : (t : DataType) (n : ℤ) → suited kind.mean t ≡ true → fits_number n t ≡ true → IsSmall n 1
number-small dt.Boolean n s e = cc
number-small dt.Int8 n s e = signed-small 7 n (omega arith) e
number-small dt.Int16 n s e = signed-small 15 n (omega arith) e
number-small dt.Int32 n s e = signed-small 31 n (omega arith) e
number-small dt.Int64 n s e = signed-small 63 n (omega arith) e
number-small dt.UInt8 n s e = unsigned-small 8 n (omega arith) e
number-small dt.UInt16 n s e = unsigned-small 16 n (omega arith) e
number-small dt.UInt32 n s e = unsigned-small 32 n (omega arith) e
number-small dt.UInt64 n s e = unsigned-small 64 n (omega arith) e
number-small dt.Int128 n s e = cc
number-small dt.Date n s e = cc
number-small dt.String n s e = cc

-- values of such a type have a small sum
pub values-small : (t : DataType) (vs : List AnyValue) → suited kind.mean t ≡ true → All (Fit t) vs → IsSmall (exact_sum vs) (length (present vs))
values-small t [] s h = small-none
values-small t (v ∷ vs) s h = subst (λ (z : ℤ). IsSmall z (length (present (v ∷ vs)))) (sym (exact_sum-cons v vs)) (by v (All-head (Fit t) v vs h).fits (values-small t vs s (All-tail (Fit t) v vs h))) where
  one-more : (n : ℕ) → 1 + n ≡ suc n
  one-more n = omega arith

  none-more : (n : ℕ) → 0 + n ≡ n
  none-more n = omega arith

  zero-small : IsSmall (pos 0) 1
  zero-small = record { above = omega (arith, ints); below = omega (arith, ints) }

  one-small : IsSmall (pos 1) 1
  one-small = record { above = omega (arith, ints); below = omega (arith, ints) }

  by : (w : AnyValue) → fits w t ≡ true → IsSmall (exact_sum vs) (length (present vs)) → IsSmall (addend w +ℤ exact_sum vs) (length (present (w ∷ vs)))
  by av.Null f rest = subst (IsSmall (pos 0 +ℤ exact_sum vs)) (none-more (length (present vs))) (small-both (pos 0) (exact_sum vs) 0 (length (present vs)) small-none rest)
  by (av.Boolean true) f rest = subst (IsSmall (pos 1 +ℤ exact_sum vs)) (one-more (length (present vs))) (small-both (pos 1) (exact_sum vs) 1 (length (present vs)) one-small rest)
  by (av.Boolean false) f rest = subst (IsSmall (pos 0 +ℤ exact_sum vs)) (one-more (length (present vs))) (small-both (pos 0) (exact_sum vs) 1 (length (present vs)) zero-small rest)
  by (av.Int n) f rest = subst (IsSmall (n +ℤ exact_sum vs)) (one-more (length (present vs))) (small-both n (exact_sum vs) 1 (length (present vs)) (number-small t n s f) rest)
  by (av.Text x) f rest = subst (IsSmall (pos 0 +ℤ exact_sum vs)) (one-more (length (present vs))) (small-both (pos 0) (exact_sum vs) 1 (length (present vs)) zero-small rest)

-- values that are no null are no more than all
pub present-few : (vs : List AnyValue) → length (present vs) ≤ length vs
present-few [] = omega arith
present-few (av.Null ∷ vs) = let rest = present-few vs in omega arith
present-few (av.Boolean b ∷ vs) = let rest = present-few vs in omega arith
present-few (av.Int n ∷ vs) = let rest = present-few vs in omega arith
present-few (av.Text s ∷ vs) = let rest = present-few vs in omega arith

-- the halves of their mean
pub halves-saved : (t : DataType) (vs : List AnyValue) (n : ℕ) → suited kind.mean t ≡ true → All (Fit t) vs → length vs ≡ n → n < 2 ^ 32 → AreHalves (sum_if_any (present vs)) (length (present vs)) n
halves-saved t vs n s h e few =
    let le = present-few vs in
    sum-halves vs (length (present vs)) n (λ none. ap length none) (λ x xs some. positive x xs some) (values-small t vs s h) (omega arith) few
  where
    positive : (x : AnyValue) (xs : List AnyValue) → present vs ≡ x ∷ xs → 0 < length (present vs)
    positive x xs some = subst (λ (l : List AnyValue). 0 < length l) (sym some) (omega arith)

-- ---- one aggregate

-- as many values as entries
pub values-length : (es : List (Place × AnyValue)) → length (values_in es) ≡ length es
values-length [] = refl
values-length (e ∷ es) = let rest = values-length es in omega arith

-- what an aggregate gives of values of its type is good
pub agg-good : (k : Kind) (t : DataType) (n : ℕ) (es : List (Place × AnyValue)) → suited k t ≡ true → All (λ e. Fit t e.1) es → length es ≡ n → n < 2 ^ 32 → IsGood k t n (agg k t es)
agg-good kind.sum t n es s h e few = total-good t n (values_in es)
agg-good kind.mean t n es s h e few = by t (mean-good t (sum_if_any (present (values_in es))) (length (present (values_in es))) n (halves-saved t (values_in es) n s (All-map (Fit t) (λ (x : Place × AnyValue). x.1) es h) (values-length es ∙ e) few) few) where
  by : (u : DataType) → IsGood kind.mean u n (mean_values u (sum_if_any (present (values_in es))) (counted (length (present (values_in es))))) → IsGood kind.mean u n (agg kind.mean u es)
  by dt.Boolean g = g
  by dt.Int8 g = g
  by dt.Int16 g = g
  by dt.Int32 g = g
  by dt.Int64 g = g
  by dt.UInt8 g = g
  by dt.UInt16 g = g
  by dt.UInt32 g = g
  by dt.UInt64 g = g
  by dt.Int128 g = g
  by dt.Date g = g
  by dt.String g = g
agg-good kind.min t n es s h e few = least-good t n (values_in es) (All-map (Fit t) (λ (x : Place × AnyValue). x.1) es h)
agg-good kind.max t n es s h e few = greatest-good t n (values_in es) (All-map (Fit t) (λ (x : Place × AnyValue). x.1) es h)
agg-good kind.first t n es s h e few = first-good t n es h
agg-good kind.last t n es s h e few = last-good t n es h
agg-good kind.count t n es s h e few = let le = present-few (values_in es) in let long = values-length es in count-good t (length (present (values_in es))) n (omega arith) few
agg-good kind.len t n es s h e few = subst (λ (m : ℕ). IsGood kind.len t n (counted m ∷ [])) (sym e) (len-good t n few)

-- ---- all aggregates

-- the types of what aggregates are fed
abbrev pub fed_types : List Field → List AggTree → List DataType
fed_types schema aggs = map (λ a. input_type schema a.input) aggs

-- from the input at position i on, an entry has inputs of some aggregates
pub record HasInputs (schema : List Field) (aggs : List AggTree) (i : ℕ) (e : Place × List AnyValue) : Type 0 where
  front : List AnyValue
  back : List AnyValue
  long : length front ≡ i
  inputs : e.1 ≡ front ++ back
  typed : AreOfTypes (fed_types schema aggs) back
  utf8 : All HasUtf8 back

-- so it has the first
pub input_first : (schema : List Field) (a : AggTree) (aggs : List AggTree) (i : ℕ) (e : Place × List AnyValue) → HasInputs schema (a ∷ aggs) i e → Fit (input_type schema a.input) (value_at e.1 i)
input_first schema a aggs i e h = by h.back h.inputs h.typed h.utf8 where
  by : (back : List AnyValue) → e.1 ≡ h.front ++ back → AreOfTypes (fed_types schema (a ∷ aggs)) back → All HasUtf8 back → Fit (input_type schema a.input) (value_at e.1 i)
  by [] f g u = absurd g
  by (v ∷ back) f g u =
      let here : value_at e.1 i ≡ v = ap (λ (l : List AnyValue). value_at l i) f ∙ value-first h.front v back i h.long in
      record { fits = ap (λ (w : AnyValue). fits w (input_type schema a.input)) here ∙ g.0; utf8 = subst HasUtf8 (sym here) (All-head HasUtf8 v back u) }

-- and the others
pub input_rest : (schema : List Field) (a : AggTree) (aggs : List AggTree) (i : ℕ) (e : Place × List AnyValue) → HasInputs schema (a ∷ aggs) i e → HasInputs schema aggs (i + 1) e
input_rest schema a aggs i e h = by h.back h.inputs h.typed h.utf8 where
  by : (back : List AnyValue) → e.1 ≡ h.front ++ back → AreOfTypes (fed_types schema (a ∷ aggs)) back → All HasUtf8 back → HasInputs schema aggs (i + 1) e
  by [] f g u = absurd g
  by (v ∷ back) f g u = record {
    front = h.front ++ v ∷ [];
    back = back;
    long = length-append h.front (v ∷ []) ∙ ap (λ (n : ℕ). n + 1) h.long;
    inputs = f ∙ sym (append_assoc h.front (v ∷ []) back);
    typed = g.1;
    utf8 = All-tail HasUtf8 v back u;
  }

-- as many inputs as entries
pub inputs-length : (i : ℕ) (es : Entries) → length (inputs_at i es) ≡ length es
inputs-length i [] = refl
inputs-length i (e ∷ es) = let rest = inputs-length i es in omega arith

-- what aggregates give of entries of their types is good
pub all_given-good : (schema : List Field) (aggs : List AggTree) (j i n : ℕ) (es : Entries) → list_all (is_suited schema) aggs ≡ true → All (HasInputs schema aggs i) es → length es ≡ n → n < 2 ^ 32
    → AreGood schema aggs j n (aggs_from i schema aggs es)
all_given-good schema [] j i n es s h e few = none-good schema j n
all_given-good schema (a ∷ aggs) j i n es s h e few =
    let t : DataType = input_type schema a.input in
    let parts = both_true (is_suited schema a) (list_all (is_suited schema) aggs) s in
    more-good schema a aggs j n (agg a.kind t (inputs_at i es)) (aggs_from (i + 1) schema aggs es)
    (agg-good a.kind t n (inputs_at i es) parts.0
    (All-map (λ (x : Place × AnyValue). Fit t x.1) (λ (x : Place × List AnyValue). (x.0, value_at x.1 i)) es (All-weaker (HasInputs schema (a ∷ aggs) i) (λ x. Fit t (value_at x.1 i)) (λ x g. input_first schema a aggs i x g) es h))
    (inputs-length i es ∙ e) few)
    (all_given-good schema aggs (j + column_count a.kind t) (i + 1) n es parts.1 (All-weaker (HasInputs schema (a ∷ aggs) i) (HasInputs schema aggs (i + 1)) (λ x g. input_rest schema a aggs i x g) es h) e few)

-- ---- the state of a part

-- a state row of rows of a query's types is one of the query
pub row-of : (q : QueryTree) (rs : List Row) (k : List AnyValue) → IsGroupable q → All (HasValues (key_types q) (fed_types q.schema q.aggs)) rs → length rs < 2 ^ 32 → Has k (tuples_of rs) → IsRowOf q (state_row q rs k)
row-of q rs k g h few m =
    let one = image-of (λ (r : Row). r.key) k rs (sorted-from tuple_cmp k (keys_of rs) m) in
    let more = sum-has (λ (r : StateRow). r.rows) (state_row q rs k) (state_rows q rs) (has-image (state_row q rs) k (tuples_of rs) m) in
    let less = rows-few q rs in
    let good = all_given-good q.schema q.aggs 0 0 (length (rows_at rs k)) (rows_at rs k) g.aggs
    (entries_hold (HasInputs q.schema q.aggs 0) rs k (All-weaker (HasValues (key_types q) (fed_types q.schema q.aggs)) (λ r. HasInputs q.schema q.aggs 0 (r.place, r.inputs))
    (λ r v. record { front = []; back = r.inputs; long = refl; inputs = refl; typed = v.inputs.of_types; utf8 = v.inputs.utf8 }) rs h)) refl (omega arith) in
    record {
      key = subst (IsTuple (key_types q)) (sym one.2) (all_at (HasValues (key_types q) (fed_types q.schema q.aggs)) rs one.0 h one.1).key;
      results = record { of_types = good.typed; utf8 = good.utf8 };
      given = good.can [] refl;
    }

-- so the state of such rows is a state of the query
pub saved-of : (q : QueryTree) (p : Part) → IsGroupable q → All (HasValues (key_types q) (fed_types q.schema q.aggs)) p.rows → length p.rows < 2 ^ 32 → IsStateOf q (saved q p)
saved-of q p g h few = each (tuples_of p.rows) (λ k m. m) where
  each : (ks : List (List AnyValue)) → ((k : List AnyValue) → Has k ks → Has k (tuples_of p.rows)) → All (IsRowOf q) (map (state_row q p.rows) ks)
  each [] f = All-nil (IsRowOf q)
  each (k ∷ ks) f = All-cons (IsRowOf q) (state_row q p.rows k) (map (state_row q p.rows) ks) (row-of q p.rows k g h few (f k (inl refl))) (each ks (λ x m. f x (inr m)))
