-- The rules of an aggregate: they make of state rows what the aggregate does.
use Rattle.std.proofs.Common.{◌≡◌, ◌∙◌, ℕ, ◌+◌, ◌<◌, ◌≤◌, ◌^◌, ◌&&◌, ℤ, pos, negsuc, ◌+ℤ◌, Bool, true, false, not, List, [], ◌∷◌, ◌++◌, length, map, All, refl, sym, ap, subst, arith, lt-ltb, leb-true, eqb-true}
use Rattle.std.proofs.lemmas.Bool.{false≢true}
use Rattle.std.proofs.lemmas.Int.{ints}
use Rattle.std.proofs.lemmas.List.Elements.{All-head, All-tail, All-weaker}
use Rattle.std.proofs.lemmas.List.Sums.{sum_by-cons}
use Rattle.pipe_columns.specs.declared.any_value.AnyValue.{AnyValue}
use Rattle.pipe_columns.specs.declared.any_value.AnyValue.TheVariants as av
use Rattle.pipe_columns.specs.declared.data_type.DataType.{DataType}
use Rattle.pipe_columns.specs.declared.data_type.DataType.TheVariants as dt
use Rattle.pipe_columns.specs.declared.schema.Field.{Field}
use Rattle.pipe_columns.specs.AnyValue.{fits, fits_number, is_null, is_signed}
use Rattle.pipe_columns.specs.DataType.{sum_type, wrapped}
use Rattle.pipe_columns.specs.Frame.{value_at}
use Rattle.pipe_aggs.specs.HashAggs.{function_for}
use Rattle.pipe_model.specs.Aggregate.{addend, exact_sum, extreme, greater, lesser, present, sum_if_any}
use Rattle.pipe_model.specs.Groupable.{suited}
use Rattle.pipe_model.specs.Kind.{Kind}
use Rattle.pipe_model.specs.Kind as kind
use Rattle.pipe_model.specs.Output.{agg_fields, input_type}
use Rattle.pipe_model.specs.Query.{AggTree}
use Rattle.pipe_model.proofs.SumFacts.{exact_sum-present}
use Rattle.pipe_native.specs.Native.{IsNative, Native, native_i32, native_i64, native_i128, native_u32, native_u64}
use Rattle.pipe_native.specs.NativeLaws.{is_native_i32, is_native_i64, is_native_i128, is_native_u32, is_native_u64}
use Rattle.pipe_spill.specs.KeyTypes.{AreOfTypes}
use Rattle.pipe_states.specs.Fair.{can_give, can_give_all, does_sum_suit, is_count_within, is_number}
use Rattle.pipe_states.specs.Regrouped.{column_count, regrouped_agg, results_at}
use Rattle.pipe_states.specs.declared.state_row.StateRow.{StateRow}
use Rattle.pipe_states.proofs.GivenRows.{count_in, counts-sum, counts-within, counts_at, HasGood, suit-small}
use Rattle.pipe_states.proofs.GoodFacts.{IsSmall, small-both, small-none}
use Rattle.pipe_states.proofs.HalfFacts.{both_true}
use Rattle.pipe_states.proofs.TextFacts.{types_of, value-first}
use Rattle.pipe_states.proofs.ValueFacts.{exact_sum-cons}
use Rattle.pipe_regroup.specs.declared.rule.Rule.{Rule}
use Rattle.pipe_regroup.specs.declared.rule.Rule.TheVariants as rule
use Rattle.pipe_regroup.specs.Rules.{by_rule, by_rules, rules_of}
use Rattle.pipe_regroup.specs.Groups.{count_rows}
use Rattle.pipe_regroup.proofs.RuleJoins.{AreHeld}

-- ---- numbers in their types

-- a number that fits a type isn't changed by wrapping into it
wrapped-fits : {K : Type 0} (k : Native K) → IsNative k → (n : ℤ) → fits_number n k.dtype ≡ true → wrapped k.dtype n ≡ n
wrapped-fits k w n e = sym (w.gives n) ∙ w.keeps n e

from_zero : (n : ℤ) → pos 0 +ℤ n ≡ n
from_zero n = omega (arith, ints)

-- a sum of one value of its type is that value
module _ (t : DataType) (keeps : (n : ℤ) → fits_number n t ≡ true → wrapped t n ≡ n) where
  own-sum : (v : AnyValue) → ((b : Bool) → fits (av.Boolean b) t ≡ false) → ((s : List ℕ) → fits (av.Text s) t ≡ false) → fits v t ≡ true → not (is_null v) ≡ true
      → av.Int (wrapped t (exact_sum (v ∷ []))) ≡ v
  own-sum av.Null b s f n = cc
  own-sum (av.Boolean x) b s f n = absurd (false≢true (sym (b x) ∙ f))
  own-sum (av.Int n) b s f e = ap av.Int (ap (wrapped t) (from_zero n) ∙ keeps n f)
  own-sum (av.Text x) b s f n = absurd (false≢true (sym (s x) ∙ f))

u32-sum : (v : AnyValue) → fits v dt.UInt32 ≡ true → not (is_null v) ≡ true → av.Int (wrapped dt.UInt32 (exact_sum (v ∷ []))) ≡ v
u32-sum v = own-sum dt.UInt32 (wrapped-fits native_u32 is_native_u32) v (λ b. refl) (λ s. refl)

u64-sum : (v : AnyValue) → fits v dt.UInt64 ≡ true → not (is_null v) ≡ true → av.Int (wrapped dt.UInt64 (exact_sum (v ∷ []))) ≡ v
u64-sum v = own-sum dt.UInt64 (wrapped-fits native_u64 is_native_u64) v (λ b. refl) (λ s. refl)

i32-sum : (v : AnyValue) → fits v dt.Int32 ≡ true → not (is_null v) ≡ true → av.Int (wrapped dt.Int32 (exact_sum (v ∷ []))) ≡ v
i32-sum v = own-sum dt.Int32 (wrapped-fits native_i32 is_native_i32) v (λ b. refl) (λ s. refl)

i64-sum : (v : AnyValue) → fits v dt.Int64 ≡ true → not (is_null v) ≡ true → av.Int (wrapped dt.Int64 (exact_sum (v ∷ []))) ≡ v
i64-sum v = own-sum dt.Int64 (wrapped-fits native_i64 is_native_i64) v (λ b. refl) (λ s. refl)

-- a null is the null
null-is : (v : AnyValue) → is_null v ≡ true → av.Null ≡ v
null-is av.Null e = refl
null-is (av.Boolean b) e = cc
null-is (av.Int n) e = cc
null-is (av.Text s) e = cc

-- an extreme of one value is that value
extreme-own : (choose : AnyValue → AnyValue → AnyValue) (v : AnyValue) → extreme choose (present (v ∷ [])) ≡ v
extreme-own choose av.Null = refl
extreme-own choose (av.Boolean b) = refl
extreme-own choose (av.Int n) = refl
extreme-own choose (av.Text s) = refl

-- ---- counts

-- a state row has a count in a column
record CountAt (j : ℕ) (r : StateRow) : Type 0 where
  is : value_at r.results j ≡ av.Int (pos (count_in (value_at r.results j)))
  few : count_in (value_at r.results j) ≤ r.rows

count-within : (n : ℕ) (v : AnyValue) → is_count_within n v ≡ true → (v ≡ av.Int (pos (count_in v))) × (count_in v ≤ n)
count-within n (av.Int (pos m)) e = (refl, leb-true m n e)
count-within n (av.Int (negsuc m)) e = cc
count-within n av.Null e = cc
count-within n (av.Boolean b) e = cc
count-within n (av.Text s) e = cc

count-number : (n : ℕ) (v : AnyValue) → is_number n v ≡ true → (v ≡ av.Int (pos (count_in v))) × (count_in v ≤ n)
count-number n (av.Int (pos m)) e = (refl, let same = eqb-true m n e in omega arith)
count-number n (av.Int (negsuc m)) e = cc
count-number n av.Null e = cc
count-number n (av.Boolean b) e = cc
count-number n (av.Text s) e = cc

-- counts are in their range
u32-count : (n : ℕ) → n < 2 ^ 32 → wrapped dt.UInt32 (pos n) ≡ pos n
u32-count n few = wrapped-fits native_u32 is_native_u32 (pos n) (lt-ltb n (2 ^ 32) few)

count-column : (j : ℕ) (rows : List StateRow) → All (CountAt j) rows → count_rows rows < 2 ^ 32 → av.Int (exact_sum (results_at j rows)) ≡ av.Int (wrapped dt.UInt32 (exact_sum (results_at j rows)))
count-column j rows h few =
    let sum : exact_sum (results_at j rows) ≡ pos (counts_at j rows) =
    counts-sum j rows (All-weaker (CountAt j) (λ r. addend (value_at r.results j) ≡ pos (count_in (value_at r.results j))) (λ r c. ap addend c.is) rows h) in
    let le = counts-within j rows (All-weaker (CountAt j) (λ r. count_in (value_at r.results j) ≤ r.rows) (λ r c. c.few) rows h) in
    ap av.Int (sum ∙ sym (ap (wrapped dt.UInt32) sum ∙ u32-count (counts_at j rows) (omega (arith, le, few))))

own-count : (j : ℕ) (r : StateRow) → CountAt j r → r.rows < 2 ^ 32 → by_rule rule.SumU32 j (r ∷ []) ≡ value_at r.results j
own-count j r c few =
    ap (λ (v : AnyValue). av.Int (wrapped dt.UInt32 (exact_sum (v ∷ [])))) c.is
    ∙ ap av.Int (ap (wrapped dt.UInt32) (from_zero (pos (count_in (value_at r.results j)))) ∙ u32-count (count_in (value_at r.results j)) (let le = c.few in omega (arith, le, few)))
    ∙ sym c.is

-- ---- means

-- a state row has the sum of a mean in a column, and its count behind it
record MeanAt (j : ℕ) (r : StateRow) : Type 0 where
  suits : does_sum_suit (value_at r.results j) (value_at r.results (j + 1)) ≡ true
  count : CountAt (j + 1) r

own-mean : (v w : AnyValue) → does_sum_suit v w ≡ true → sum_if_any (present (v ∷ [])) ≡ v
own-mean av.Null w e = refl
own-mean (av.Int n) w e = ap av.Int (from_zero n)
own-mean (av.Boolean b) w e = cc
own-mean (av.Text s) w e = cc

sums-small : (j : ℕ) (rows : List StateRow) → All (MeanAt j) rows → IsSmall (exact_sum (results_at j rows)) (counts_at (j + 1) rows)
sums-small j [] h = small-none
sums-small j (r ∷ rows) h =
    let rest = sums-small j rows (All-tail (MeanAt j) r rows h) in
    let here = suit-small (value_at r.results j) (value_at r.results (j + 1)) (All-head (MeanAt j) r rows h).suits in
    subst (λ (z : ℤ). IsSmall z (counts_at (j + 1) (r ∷ rows))) (sym (exact_sum-cons (value_at r.results j) (results_at j rows)))
    (subst (IsSmall (addend (value_at r.results j) +ℤ exact_sum (results_at j rows))) (sym (sum_by-cons (λ (s : StateRow). count_in (value_at s.results (j + 1))) r rows))
    (small-both (addend (value_at r.results j)) (exact_sum (results_at j rows)) (count_in (value_at r.results (j + 1))) (counts_at (j + 1) rows) here rest))

small-held : (z : ℤ) (count : ℕ) → IsSmall z count → count < 2 ^ 32 → is_signed 127 z ≡ true
small-held (pos n) count s few = lt-ltb n (2 ^ 127) (omega (arith, ints, s.below))
small-held (negsuc n) count s few = lt-ltb n (2 ^ 127) (omega (arith, ints, s.above))

mean-held : (j : ℕ) (rows : List StateRow) → All (MeanAt j) rows → count_rows rows < 2 ^ 32 → wrapped dt.Int128 (exact_sum (present (results_at j rows))) ≡ exact_sum (present (results_at j rows))
mean-held j rows h few =
    let le = counts-within (j + 1) rows (All-weaker (MeanAt j) (λ r. count_in (value_at r.results (j + 1)) ≤ r.rows) (λ r m. m.count.few) rows h) in
    let fit : is_signed 127 (exact_sum (results_at j rows)) ≡ true = small-held (exact_sum (results_at j rows)) (counts_at (j + 1) rows) (sums-small j rows h) (omega (arith, le, few)) in
    wrapped-fits native_i128 is_native_i128 (exact_sum (present (results_at j rows))) (ap (is_signed 127) (exact_sum-present (results_at j rows)) ∙ fit)

-- ---- one aggregate

-- what a state row has of one aggregate, from the column at position j on
pub record HasAgg (k : Kind) (t : DataType) (j : ℕ) (r : StateRow) : Type 0 where
  can : can_give k t r.rows (value_at r.results j) (value_at r.results (j + 1)) ≡ true
  sum : k ≡ kind.sum → fits (value_at r.results j) (sum_type t) ≡ true

-- a sum has the type of sums
sum-typed : (schema : List Field) (aggs : List AggTree) (k : Kind) (t : DataType) (j : ℕ) (r : StateRow) (front back : List AnyValue) → length front ≡ j → r.results ≡ front ++ back
    → AreOfTypes (map (λ f. f.dtype) (agg_fields [] k t) ++ types_of schema aggs) back → k ≡ kind.sum → fits (value_at r.results j) (sum_type t) ≡ true
sum-typed schema aggs kind.sum t j r front [] f e h s = absurd h
sum-typed schema aggs kind.sum t j r front (v ∷ back) f e h s = ap (λ (l : List AnyValue). fits (value_at l j) (sum_type t)) e ∙ ap (λ (w : AnyValue). fits w (sum_type t)) (value-first front v back j f) ∙ h.0
sum-typed schema aggs kind.mean t j r front back f e h s = cc
sum-typed schema aggs kind.min t j r front back f e h s = cc
sum-typed schema aggs kind.max t j r front back f e h s = cc
sum-typed schema aggs kind.first t j r front back f e h s = cc
sum-typed schema aggs kind.last t j r front back f e h s = cc
sum-typed schema aggs kind.count t j r front back f e h s = cc
sum-typed schema aggs kind.len t j r front back f e h s = cc

pub has-agg : (schema : List Field) (a : AggTree) (aggs : List AggTree) (j : ℕ) (r : StateRow) → HasGood schema (a ∷ aggs) j r → HasAgg a.kind (input_type schema a.input) j r
has-agg schema a aggs j r h =
    let t : DataType = input_type schema a.input in
    let parts = both_true (can_give a.kind t r.rows (value_at r.results j) (value_at r.results (j + 1))) (can_give_all (j + column_count a.kind t) schema aggs r.rows r.results) h.can in
    record { can = parts.0; sum = sum-typed schema aggs a.kind t j r h.front h.back h.long h.results h.typed }

-- the count of a count, and of a number of rows
count-at : (t : DataType) (j : ℕ) (r : StateRow) → HasAgg kind.count t j r → CountAt j r
count-at t j r h = let c = count-within r.rows (value_at r.results j) h.can in record { is = c.0; few = c.1 }

len-at : (t : DataType) (j : ℕ) (r : StateRow) → HasAgg kind.len t j r → CountAt j r
len-at t j r h = let c = count-number r.rows (value_at r.results j) h.can in record { is = c.0; few = c.1 }

-- both halves of a mean
mean-at : (t : DataType) (j : ℕ) (r : StateRow) → can_give kind.mean t r.rows (value_at r.results j) (value_at r.results (j + 1)) ≡ (is_count_within r.rows (value_at r.results (j + 1)) && does_sum_suit (value_at r.results j) (value_at r.results (j + 1)))
    → HasAgg kind.mean t j r → MeanAt j r
mean-at t j r e h =
    let parts = both_true (is_count_within r.rows (value_at r.results (j + 1))) (does_sum_suit (value_at r.results j) (value_at r.results (j + 1))) (sym e ∙ h.can) in
    let c = count-within r.rows (value_at r.results (j + 1)) parts.0 in
    record { suits = parts.1; count = record { is = c.0; few = c.1 } }

-- the rules of an aggregate over values of a type
abbrev pub agg_rules : Kind → DataType → List Rule
agg_rules k t = rules_of (function_for k t)

-- a row alone comes to its own results, from the column at position j on
abbrev pub AreAlone : ℕ → List Rule → StateRow → Type 0
AreAlone j [] r = Unit {0}
AreAlone j (k ∷ rules) r = (by_rule k j (r ∷ []) ≡ value_at r.results j) × AreAlone (j + 1) rules r

module _ (j : ℕ) (rows : List StateRow) (few : count_rows rows < 2 ^ 32) where
  -- both columns of a mean
  mean-columns : (t : DataType) → All (MeanAt j) rows → sum_if_any (present (results_at j rows)) ∷ av.Int (exact_sum (results_at (j + 1) rows)) ∷ []
      ≡ by_rules j (rule.MeanSum ∷ rule.SumU32 ∷ []) rows
  mean-columns t h = λ i. sum_if_any (present (results_at j rows)) ∷ count-column (j + 1) rows (All-weaker (MeanAt j) (CountAt (j + 1)) (λ r m. m.count) rows h) few i ∷ []

  -- the rules make of rows what the aggregate does
  pub agg-is : (k : Kind) (t : DataType) → suited k t ≡ true → All (HasAgg k t j) rows → regrouped_agg k t j rows ≡ by_rules j (agg_rules k t) rows
  agg-is kind.sum dt.Boolean s h = refl
  agg-is kind.sum dt.Int8 s h = refl
  agg-is kind.sum dt.Int16 s h = refl
  agg-is kind.sum dt.Int32 s h = refl
  agg-is kind.sum dt.Int64 s h = refl
  agg-is kind.sum dt.UInt8 s h = refl
  agg-is kind.sum dt.UInt16 s h = refl
  agg-is kind.sum dt.UInt32 s h = refl
  agg-is kind.sum dt.UInt64 s h = refl
  agg-is kind.sum dt.Int128 s h = cc
  agg-is kind.sum dt.Date s h = cc
  agg-is kind.sum dt.String s h = refl
  agg-is kind.mean dt.Boolean s h = mean-columns dt.Boolean (All-weaker (HasAgg kind.mean dt.Boolean j) (MeanAt j) (λ r. mean-at dt.Boolean j r refl) rows h)
  agg-is kind.mean dt.Int8 s h = mean-columns dt.Int8 (All-weaker (HasAgg kind.mean dt.Int8 j) (MeanAt j) (λ r. mean-at dt.Int8 j r refl) rows h)
  agg-is kind.mean dt.Int16 s h = mean-columns dt.Int16 (All-weaker (HasAgg kind.mean dt.Int16 j) (MeanAt j) (λ r. mean-at dt.Int16 j r refl) rows h)
  agg-is kind.mean dt.Int32 s h = mean-columns dt.Int32 (All-weaker (HasAgg kind.mean dt.Int32 j) (MeanAt j) (λ r. mean-at dt.Int32 j r refl) rows h)
  agg-is kind.mean dt.Int64 s h = mean-columns dt.Int64 (All-weaker (HasAgg kind.mean dt.Int64 j) (MeanAt j) (λ r. mean-at dt.Int64 j r refl) rows h)
  agg-is kind.mean dt.UInt8 s h = mean-columns dt.UInt8 (All-weaker (HasAgg kind.mean dt.UInt8 j) (MeanAt j) (λ r. mean-at dt.UInt8 j r refl) rows h)
  agg-is kind.mean dt.UInt16 s h = mean-columns dt.UInt16 (All-weaker (HasAgg kind.mean dt.UInt16 j) (MeanAt j) (λ r. mean-at dt.UInt16 j r refl) rows h)
  agg-is kind.mean dt.UInt32 s h = mean-columns dt.UInt32 (All-weaker (HasAgg kind.mean dt.UInt32 j) (MeanAt j) (λ r. mean-at dt.UInt32 j r refl) rows h)
  agg-is kind.mean dt.UInt64 s h = mean-columns dt.UInt64 (All-weaker (HasAgg kind.mean dt.UInt64 j) (MeanAt j) (λ r. mean-at dt.UInt64 j r refl) rows h)
  agg-is kind.mean dt.Int128 s h = cc
  agg-is kind.mean dt.Date s h = cc
  agg-is kind.mean dt.String s h = refl
  agg-is kind.min dt.Boolean s h = cc
  agg-is kind.min dt.Int8 s h = refl
  agg-is kind.min dt.Int16 s h = refl
  agg-is kind.min dt.Int32 s h = refl
  agg-is kind.min dt.Int64 s h = refl
  agg-is kind.min dt.UInt8 s h = refl
  agg-is kind.min dt.UInt16 s h = refl
  agg-is kind.min dt.UInt32 s h = refl
  agg-is kind.min dt.UInt64 s h = refl
  agg-is kind.min dt.Int128 s h = cc
  agg-is kind.min dt.Date s h = cc
  agg-is kind.min dt.String s h = cc
  agg-is kind.max dt.Boolean s h = cc
  agg-is kind.max dt.Int8 s h = refl
  agg-is kind.max dt.Int16 s h = refl
  agg-is kind.max dt.Int32 s h = refl
  agg-is kind.max dt.Int64 s h = refl
  agg-is kind.max dt.UInt8 s h = refl
  agg-is kind.max dt.UInt16 s h = refl
  agg-is kind.max dt.UInt32 s h = refl
  agg-is kind.max dt.UInt64 s h = refl
  agg-is kind.max dt.Int128 s h = cc
  agg-is kind.max dt.Date s h = cc
  agg-is kind.max dt.String s h = cc
  agg-is kind.first t s h = refl
  agg-is kind.last t s h = refl
  agg-is kind.count t s h = λ i. count-column j rows (All-weaker (HasAgg kind.count t j) (CountAt j) (λ r. count-at t j r) rows h) few i ∷ []
  agg-is kind.len t s h = λ i. count-column j rows (All-weaker (HasAgg kind.len t j) (CountAt j) (λ r. len-at t j r) rows h) few i ∷ []

  -- and hold their sums
  pub agg-held : (k : Kind) (t : DataType) → suited k t ≡ true → All (HasAgg k t j) rows → AreHeld j (agg_rules k t) rows
  agg-held kind.sum dt.Boolean s h = (tt, tt)
  agg-held kind.sum dt.Int8 s h = (tt, tt)
  agg-held kind.sum dt.Int16 s h = (tt, tt)
  agg-held kind.sum dt.Int32 s h = (tt, tt)
  agg-held kind.sum dt.Int64 s h = (tt, tt)
  agg-held kind.sum dt.UInt8 s h = (tt, tt)
  agg-held kind.sum dt.UInt16 s h = (tt, tt)
  agg-held kind.sum dt.UInt32 s h = (tt, tt)
  agg-held kind.sum dt.UInt64 s h = (tt, tt)
  agg-held kind.sum dt.Int128 s h = cc
  agg-held kind.sum dt.Date s h = cc
  agg-held kind.sum dt.String s h = (tt, tt)
  agg-held kind.mean dt.Boolean s h = (mean-held j rows (All-weaker (HasAgg kind.mean dt.Boolean j) (MeanAt j) (λ r. mean-at dt.Boolean j r refl) rows h) few, (tt, tt))
  agg-held kind.mean dt.Int8 s h = (mean-held j rows (All-weaker (HasAgg kind.mean dt.Int8 j) (MeanAt j) (λ r. mean-at dt.Int8 j r refl) rows h) few, (tt, tt))
  agg-held kind.mean dt.Int16 s h = (mean-held j rows (All-weaker (HasAgg kind.mean dt.Int16 j) (MeanAt j) (λ r. mean-at dt.Int16 j r refl) rows h) few, (tt, tt))
  agg-held kind.mean dt.Int32 s h = (mean-held j rows (All-weaker (HasAgg kind.mean dt.Int32 j) (MeanAt j) (λ r. mean-at dt.Int32 j r refl) rows h) few, (tt, tt))
  agg-held kind.mean dt.Int64 s h = (mean-held j rows (All-weaker (HasAgg kind.mean dt.Int64 j) (MeanAt j) (λ r. mean-at dt.Int64 j r refl) rows h) few, (tt, tt))
  agg-held kind.mean dt.UInt8 s h = (mean-held j rows (All-weaker (HasAgg kind.mean dt.UInt8 j) (MeanAt j) (λ r. mean-at dt.UInt8 j r refl) rows h) few, (tt, tt))
  agg-held kind.mean dt.UInt16 s h = (mean-held j rows (All-weaker (HasAgg kind.mean dt.UInt16 j) (MeanAt j) (λ r. mean-at dt.UInt16 j r refl) rows h) few, (tt, tt))
  agg-held kind.mean dt.UInt32 s h = (mean-held j rows (All-weaker (HasAgg kind.mean dt.UInt32 j) (MeanAt j) (λ r. mean-at dt.UInt32 j r refl) rows h) few, (tt, tt))
  agg-held kind.mean dt.UInt64 s h = (mean-held j rows (All-weaker (HasAgg kind.mean dt.UInt64 j) (MeanAt j) (λ r. mean-at dt.UInt64 j r refl) rows h) few, (tt, tt))
  agg-held kind.mean dt.Int128 s h = cc
  agg-held kind.mean dt.Date s h = cc
  agg-held kind.mean dt.String s h = (tt, tt)
  agg-held kind.min dt.Boolean s h = cc
  agg-held kind.min dt.Int8 s h = (tt, tt)
  agg-held kind.min dt.Int16 s h = (tt, tt)
  agg-held kind.min dt.Int32 s h = (tt, tt)
  agg-held kind.min dt.Int64 s h = (tt, tt)
  agg-held kind.min dt.UInt8 s h = (tt, tt)
  agg-held kind.min dt.UInt16 s h = (tt, tt)
  agg-held kind.min dt.UInt32 s h = (tt, tt)
  agg-held kind.min dt.UInt64 s h = (tt, tt)
  agg-held kind.min dt.Int128 s h = cc
  agg-held kind.min dt.Date s h = cc
  agg-held kind.min dt.String s h = cc
  agg-held kind.max dt.Boolean s h = cc
  agg-held kind.max dt.Int8 s h = (tt, tt)
  agg-held kind.max dt.Int16 s h = (tt, tt)
  agg-held kind.max dt.Int32 s h = (tt, tt)
  agg-held kind.max dt.Int64 s h = (tt, tt)
  agg-held kind.max dt.UInt8 s h = (tt, tt)
  agg-held kind.max dt.UInt16 s h = (tt, tt)
  agg-held kind.max dt.UInt32 s h = (tt, tt)
  agg-held kind.max dt.UInt64 s h = (tt, tt)
  agg-held kind.max dt.Int128 s h = cc
  agg-held kind.max dt.Date s h = cc
  agg-held kind.max dt.String s h = cc
  agg-held kind.first t s h = (tt, tt)
  agg-held kind.last t s h = (tt, tt)
  agg-held kind.count t s h = (tt, tt)
  agg-held kind.len t s h = (tt, tt)

module _ (j : ℕ) (r : StateRow) (few : r.rows < 2 ^ 32) where
  -- a mean of one row
  mean-alone : MeanAt j r → AreAlone j (rule.MeanSum ∷ rule.SumU32 ∷ []) r
  mean-alone m = (own-mean (value_at r.results j) (value_at r.results (j + 1)) m.suits, (own-count (j + 1) r m.count few, tt))

  -- a row alone comes to its own results
  pub agg-alone : (k : Kind) (t : DataType) → suited k t ≡ true → HasAgg k t j r → AreAlone j (agg_rules k t) r
  agg-alone kind.sum dt.Boolean s h = (u32-sum (value_at r.results j) (h.sum refl) h.can, tt)
  agg-alone kind.sum dt.Int8 s h = (i64-sum (value_at r.results j) (h.sum refl) h.can, tt)
  agg-alone kind.sum dt.Int16 s h = (i64-sum (value_at r.results j) (h.sum refl) h.can, tt)
  agg-alone kind.sum dt.Int32 s h = (i32-sum (value_at r.results j) (h.sum refl) h.can, tt)
  agg-alone kind.sum dt.Int64 s h = (i64-sum (value_at r.results j) (h.sum refl) h.can, tt)
  agg-alone kind.sum dt.UInt8 s h = (i64-sum (value_at r.results j) (h.sum refl) h.can, tt)
  agg-alone kind.sum dt.UInt16 s h = (i64-sum (value_at r.results j) (h.sum refl) h.can, tt)
  agg-alone kind.sum dt.UInt32 s h = (u32-sum (value_at r.results j) (h.sum refl) h.can, tt)
  agg-alone kind.sum dt.UInt64 s h = (u64-sum (value_at r.results j) (h.sum refl) h.can, tt)
  agg-alone kind.sum dt.Int128 s h = cc
  agg-alone kind.sum dt.Date s h = cc
  agg-alone kind.sum dt.String s h = (null-is (value_at r.results j) h.can, tt)
  agg-alone kind.mean dt.Boolean s h = mean-alone (mean-at dt.Boolean j r refl h)
  agg-alone kind.mean dt.Int8 s h = mean-alone (mean-at dt.Int8 j r refl h)
  agg-alone kind.mean dt.Int16 s h = mean-alone (mean-at dt.Int16 j r refl h)
  agg-alone kind.mean dt.Int32 s h = mean-alone (mean-at dt.Int32 j r refl h)
  agg-alone kind.mean dt.Int64 s h = mean-alone (mean-at dt.Int64 j r refl h)
  agg-alone kind.mean dt.UInt8 s h = mean-alone (mean-at dt.UInt8 j r refl h)
  agg-alone kind.mean dt.UInt16 s h = mean-alone (mean-at dt.UInt16 j r refl h)
  agg-alone kind.mean dt.UInt32 s h = mean-alone (mean-at dt.UInt32 j r refl h)
  agg-alone kind.mean dt.UInt64 s h = mean-alone (mean-at dt.UInt64 j r refl h)
  agg-alone kind.mean dt.Int128 s h = cc
  agg-alone kind.mean dt.Date s h = cc
  agg-alone kind.mean dt.String s h = (null-is (value_at r.results j) h.can, tt)
  agg-alone kind.min dt.Boolean s h = cc
  agg-alone kind.min dt.Int8 s h = (extreme-own lesser (value_at r.results j), tt)
  agg-alone kind.min dt.Int16 s h = (extreme-own lesser (value_at r.results j), tt)
  agg-alone kind.min dt.Int32 s h = (extreme-own lesser (value_at r.results j), tt)
  agg-alone kind.min dt.Int64 s h = (extreme-own lesser (value_at r.results j), tt)
  agg-alone kind.min dt.UInt8 s h = (extreme-own lesser (value_at r.results j), tt)
  agg-alone kind.min dt.UInt16 s h = (extreme-own lesser (value_at r.results j), tt)
  agg-alone kind.min dt.UInt32 s h = (extreme-own lesser (value_at r.results j), tt)
  agg-alone kind.min dt.UInt64 s h = (extreme-own lesser (value_at r.results j), tt)
  agg-alone kind.min dt.Int128 s h = cc
  agg-alone kind.min dt.Date s h = cc
  agg-alone kind.min dt.String s h = cc
  agg-alone kind.max dt.Boolean s h = cc
  agg-alone kind.max dt.Int8 s h = (extreme-own greater (value_at r.results j), tt)
  agg-alone kind.max dt.Int16 s h = (extreme-own greater (value_at r.results j), tt)
  agg-alone kind.max dt.Int32 s h = (extreme-own greater (value_at r.results j), tt)
  agg-alone kind.max dt.Int64 s h = (extreme-own greater (value_at r.results j), tt)
  agg-alone kind.max dt.UInt8 s h = (extreme-own greater (value_at r.results j), tt)
  agg-alone kind.max dt.UInt16 s h = (extreme-own greater (value_at r.results j), tt)
  agg-alone kind.max dt.UInt32 s h = (extreme-own greater (value_at r.results j), tt)
  agg-alone kind.max dt.UInt64 s h = (extreme-own greater (value_at r.results j), tt)
  agg-alone kind.max dt.Int128 s h = cc
  agg-alone kind.max dt.Date s h = cc
  agg-alone kind.max dt.String s h = cc
  agg-alone kind.first t s h = (refl, tt)
  agg-alone kind.last t s h = (refl, tt)
  agg-alone kind.count t s h = (own-count j r (count-at t j r h) few, tt)
  agg-alone kind.len t s h = (own-count j r (len-at t j r h) few, tt)

-- as many rules as output columns
pub agg-width : (k : Kind) (t : DataType) → suited k t ≡ true → length (agg_rules k t) ≡ column_count k t
agg-width kind.sum dt.Boolean s = refl
agg-width kind.sum dt.Int8 s = refl
agg-width kind.sum dt.Int16 s = refl
agg-width kind.sum dt.Int32 s = refl
agg-width kind.sum dt.Int64 s = refl
agg-width kind.sum dt.UInt8 s = refl
agg-width kind.sum dt.UInt16 s = refl
agg-width kind.sum dt.UInt32 s = refl
agg-width kind.sum dt.UInt64 s = refl
agg-width kind.sum dt.Int128 s = cc
agg-width kind.sum dt.Date s = cc
agg-width kind.sum dt.String s = refl
agg-width kind.mean dt.Boolean s = refl
agg-width kind.mean dt.Int8 s = refl
agg-width kind.mean dt.Int16 s = refl
agg-width kind.mean dt.Int32 s = refl
agg-width kind.mean dt.Int64 s = refl
agg-width kind.mean dt.UInt8 s = refl
agg-width kind.mean dt.UInt16 s = refl
agg-width kind.mean dt.UInt32 s = refl
agg-width kind.mean dt.UInt64 s = refl
agg-width kind.mean dt.Int128 s = cc
agg-width kind.mean dt.Date s = cc
agg-width kind.mean dt.String s = refl
agg-width kind.min dt.Boolean s = cc
agg-width kind.min dt.Int8 s = refl
agg-width kind.min dt.Int16 s = refl
agg-width kind.min dt.Int32 s = refl
agg-width kind.min dt.Int64 s = refl
agg-width kind.min dt.UInt8 s = refl
agg-width kind.min dt.UInt16 s = refl
agg-width kind.min dt.UInt32 s = refl
agg-width kind.min dt.UInt64 s = refl
agg-width kind.min dt.Int128 s = cc
agg-width kind.min dt.Date s = cc
agg-width kind.min dt.String s = cc
agg-width kind.max dt.Boolean s = cc
agg-width kind.max dt.Int8 s = refl
agg-width kind.max dt.Int16 s = refl
agg-width kind.max dt.Int32 s = refl
agg-width kind.max dt.Int64 s = refl
agg-width kind.max dt.UInt8 s = refl
agg-width kind.max dt.UInt16 s = refl
agg-width kind.max dt.UInt32 s = refl
agg-width kind.max dt.UInt64 s = refl
agg-width kind.max dt.Int128 s = cc
agg-width kind.max dt.Date s = cc
agg-width kind.max dt.String s = cc
agg-width kind.first t s = refl
agg-width kind.last t s = refl
agg-width kind.count t s = refl
agg-width kind.len t s = refl
