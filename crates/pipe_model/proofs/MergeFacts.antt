-- An aggregate of two joined lists, by the aggregates of each.
use Rattle.std.proofs.Common.{◌≡◌, ◌∙◌, ℕ, ◌+◌, ℤ, pos, ◌+ℤ◌, Bool, true, false, not, List, [], ◌∷◌, ◌++◌, length, refl, sym, ap, arith}
use Rattle.std.specs.declared.cmp.Ordering.{Ordering}
use Rattle.std.specs.declared.cmp.Ordering.TheVariants.{Equal}
use Rattle.std.specs.Cmp.{back_total, IsTotalOrder}
use Rattle.std.specs.Int.{w32, w64, w128}
use Rattle.std.specs.List.{All, fold}
use Rattle.std.proofs.lemmas.Int.{ints}
use Rattle.std.proofs.lemmas.List.{append-nil, length-append, map-append}
use Rattle.std.proofs.lemmas.List.Elements.{All-contains, filter-append, filter_passes}
use Rattle.pipe_columns.specs.declared.any_value.AnyValue.{AnyValue}
use Rattle.pipe_columns.specs.declared.any_value.AnyValue.TheVariants as av
use Rattle.pipe_columns.specs.declared.data_type.DataType.{DataType}
use Rattle.pipe_columns.specs.declared.data_type.DataType.TheVariants as dt
use Rattle.pipe_columns.specs.declared.place.Place.{Place}
use Rattle.pipe_columns.specs.AnyValue.{is_null}
use Rattle.pipe_columns.specs.DataType.{sum_type, wrapped}
use Rattle.pipe_columns.proofs.ValueOrder.{value_cmp-IsAntisymmetric, value_cmp_total}
use Rattle.pipe_model.specs.Aggregate.{agg, counted, exact_sum, extreme, greater, halves, lesser, present, reads_places, sum_if_any, total, values_in}
use Rattle.pipe_model.specs.Kind.{Kind}
use Rattle.pipe_model.specs.Kind as kind
use Rattle.pipe_model.specs.Least.{IsLeast}
use Rattle.pipe_model.specs.Merged.{merged, merged_halves}
use Rattle.pipe_model.proofs.AggFacts.{greater-holds, greater_is_nearer, lesser-holds, lesser_is_nearer}
use Rattle.pipe_model.proofs.LeastFacts.{IsNearer, least-both, least-tie}
use Rattle.pipe_model.proofs.SumFacts.{exact_sum-append}
use Rattle.pipe_model.proofs.WrapFacts.{wrap-both, wraps_signed, wraps_unsigned, WrapsSums}

-- ---- sums

-- a sum of two sums, wrapped, is the sum of all
two_sums : (wrap : ℤ → ℤ) → WrapsSums wrap → (vs ws : List AnyValue)
    → av.Int (wrap (exact_sum (vs ++ ws))) ≡ av.Int (wrap (exact_sum (av.Int (wrap (exact_sum vs)) ∷ av.Int (wrap (exact_sum ws)) ∷ [])))
two_sums wrap w vs ws = ap av.Int (ap wrap (exact_sum-append vs ws) ∙ sym (wrap-both wrap w (exact_sum vs) (exact_sum ws)))

-- a sum of joined lists is that of both sums
pub total-append : (t : DataType) (vs ws : List AnyValue) → total t (vs ++ ws) ≡ total (sum_type t) (total t vs ∷ total t ws ∷ [])
total-append dt.Boolean vs ws = two_sums (wrapped dt.UInt32) (wraps_unsigned w32) vs ws
total-append dt.Int8 vs ws = two_sums (wrapped dt.Int64) (wraps_signed w64) vs ws
total-append dt.Int16 vs ws = two_sums (wrapped dt.Int64) (wraps_signed w64) vs ws
total-append dt.Int32 vs ws = two_sums (wrapped dt.Int32) (wraps_signed w32) vs ws
total-append dt.Int64 vs ws = two_sums (wrapped dt.Int64) (wraps_signed w64) vs ws
total-append dt.UInt8 vs ws = two_sums (wrapped dt.Int64) (wraps_signed w64) vs ws
total-append dt.UInt16 vs ws = two_sums (wrapped dt.Int64) (wraps_signed w64) vs ws
total-append dt.UInt32 vs ws = two_sums (wrapped dt.UInt32) (wraps_unsigned w32) vs ws
total-append dt.UInt64 vs ws = two_sums (wrapped dt.UInt64) (wraps_unsigned w64) vs ws
total-append dt.Int128 vs ws = two_sums (wrapped dt.Int128) (wraps_signed w128) vs ws
total-append dt.Date vs ws = two_sums (wrapped dt.Date) (wraps_signed w32) vs ws
total-append dt.String vs ws = refl

-- ---- counts

-- a count of joined lists is that of both counts
pub counted-append : (m n : ℕ) → counted (m + n) ≡ av.Int (exact_sum (counted m ∷ counted n ∷ []))
counted-append m n = ap av.Int (omega (arith, ints))

-- ---- means

-- a number is itself from zero on
from_zero : (n : ℤ) → n ≡ pos 0 +ℤ n
from_zero n = omega (arith, ints)

-- an exact sum, if any, of joined lists is that of both
pub sum_if_any-append : (vs ws : List AnyValue) → sum_if_any (vs ++ ws) ≡ sum_if_any (present (sum_if_any vs ∷ sum_if_any ws ∷ []))
sum_if_any-append [] [] = refl
sum_if_any-append [] (w ∷ ws) = ap av.Int (from_zero (exact_sum (w ∷ ws)))
sum_if_any-append (v ∷ vs) [] = ap av.Int (ap exact_sum (append-nil (v ∷ vs)) ∙ from_zero (exact_sum (v ∷ vs)))
sum_if_any-append (v ∷ vs) (w ∷ ws) = ap av.Int (exact_sum-append (v ∷ vs) (w ∷ ws) ∙ omega (arith, ints))

-- ---- least and greatest

-- a value that is no null is kept
kept_is : (m : AnyValue) → is_null m ≡ false → present (m ∷ []) ≡ m ∷ []
kept_is av.Null e = cc
kept_is (av.Boolean b) e = refl
kept_is (av.Int n) e = refl
kept_is (av.Text s) e = refl

-- and so are two
two_kept : (m n : AnyValue) → is_null m ≡ false → is_null n ≡ false → present (m ∷ n ∷ []) ≡ m ∷ n ∷ []
two_kept av.Null n e f = cc
two_kept (av.Boolean b) n e f = ap (λ (vs : List AnyValue). av.Boolean b ∷ vs) (kept_is n f)
two_kept (av.Int k) n e f = ap (λ (vs : List AnyValue). av.Int k ∷ vs) (kept_is n f)
two_kept (av.Text s) n e f = ap (λ (vs : List AnyValue). av.Text s ∷ vs) (kept_is n f)

module _ {R : AnyValue → AnyValue → Ordering} (o : IsTotalOrder R) (exact : (v w : AnyValue) → R v w ≡ Equal → v ≡ w)
    (choose : AnyValue → AnyValue → AnyValue) (nearer : (v w : AnyValue) → IsNearer o (choose v w) v w) (holds : (v : AnyValue) (vs : List AnyValue) → IsLeast R (fold choose v vs) (v ∷ vs)) where
  -- an extreme of values that are no null is none
  not_null : (v : AnyValue) (vs : List AnyValue) → All (λ w. is_null w ≡ false) (v ∷ vs) → is_null (fold choose v vs) ≡ false
  not_null v vs h = All-contains (λ w. is_null w ≡ false) (v ∷ vs) (fold choose v vs) h (holds v vs).within

  -- an extreme of joined lists of values that are no null is that of both extremes
  extreme-append : (vs ws : List AnyValue) → All (λ v. is_null v ≡ false) vs → All (λ w. is_null w ≡ false) ws → extreme choose (vs ++ ws) ≡ extreme choose (present (extreme choose vs ∷ extreme choose ws ∷ []))
  extreme-append [] [] h j = refl
  extreme-append [] (w ∷ ws) h j = sym (ap (extreme choose) (kept_is (fold choose w ws) (not_null w ws j)))
  extreme-append (v ∷ vs) [] h j = ap (extreme choose) (append-nil (v ∷ vs)) ∙ sym (one (fold choose v vs) (not_null v vs h)) where
    one : (m : AnyValue) → is_null m ≡ false → extreme choose (present (m ∷ av.Null ∷ [])) ≡ m
    one av.Null e = cc
    one (av.Boolean b) e = refl
    one (av.Int n) e = refl
    one (av.Text s) e = refl
  extreme-append (v ∷ vs) (w ∷ ws) h j =
      let m : AnyValue = fold choose v vs in
      let n : AnyValue = fold choose w ws in
      let whole : AnyValue = fold choose v (vs ++ (w ∷ ws)) in
      exact whole (choose m n) (least-tie o whole (choose m n) ((v ∷ vs) ++ (w ∷ ws)) (holds v (vs ++ (w ∷ ws))) (least-both o (choose m n) m n (v ∷ vs) (w ∷ ws) (nearer m n) (holds v vs) (holds w ws)))
      ∙ sym (ap (extreme choose) (two_kept m n (not_null v vs h) (not_null w ws j)))

-- ---- each kind

-- what is no null in joined lists is so in each
present-append : (vs ws : List AnyValue) → present (vs ++ ws) ≡ present vs ++ present ws
present-append vs ws = filter-append (λ (v : AnyValue). not (is_null v)) vs ws

-- what is no null is none
no_nulls : (vs : List AnyValue) → All (λ v. is_null v ≡ false) (present vs)
no_nulls vs = λ i d h. by (is_null _) (filter_passes (λ (v : AnyValue). not (is_null v)) vs i d h) where
  by : (b : Bool) → not b ≡ true → b ≡ false
  by true e = sym e
  by false e = refl

-- a mean of joined lists has both sums and both counts
halves-append : (t : DataType) (vs ws : List AnyValue) → halves t (vs ++ ws) ≡ merged_halves t (halves t vs) (halves t ws)
halves-append t vs ws = by t where
  sums : sum_if_any (present (vs ++ ws)) ≡ sum_if_any (present (sum_if_any (present vs) ∷ sum_if_any (present ws) ∷ []))
  sums = ap sum_if_any (present-append vs ws) ∙ sum_if_any-append (present vs) (present ws)

  counts : counted (length (present (vs ++ ws))) ≡ av.Int (exact_sum (counted (length (present vs)) ∷ counted (length (present ws)) ∷ []))
  counts = ap (λ (l : List AnyValue). counted (length l)) (present-append vs ws) ∙ ap counted (length-append (present vs) (present ws)) ∙ counted-append (length (present vs)) (length (present ws))

  by : (t : DataType) → halves t (vs ++ ws) ≡ merged_halves t (halves t vs) (halves t ws)
  by dt.Boolean = λ i. sums i ∷ counts i ∷ []
  by dt.Int8 = λ i. sums i ∷ counts i ∷ []
  by dt.Int16 = λ i. sums i ∷ counts i ∷ []
  by dt.Int32 = λ i. sums i ∷ counts i ∷ []
  by dt.Int64 = λ i. sums i ∷ counts i ∷ []
  by dt.UInt8 = λ i. sums i ∷ counts i ∷ []
  by dt.UInt16 = λ i. sums i ∷ counts i ∷ []
  by dt.UInt32 = λ i. sums i ∷ counts i ∷ []
  by dt.UInt64 = λ i. sums i ∷ counts i ∷ []
  by dt.Int128 = λ i. sums i ∷ counts i ∷ []
  by dt.Date = λ i. sums i ∷ counts i ∷ []
  by dt.String = refl

-- an aggregate of joined lists, by those of each
pub agg-append : (k : Kind) (t : DataType) (xs ys : List (Place × AnyValue)) → reads_places k ≡ false → agg k t (xs ++ ys) ≡ merged k t (agg k t xs) (agg k t ys)
agg-append k t xs ys e = by k e where
  values : values_in (xs ++ ys) ≡ values_in xs ++ values_in ys
  values = map-append (λ (x : Place × AnyValue). x.1) xs ys

  any : present (values_in (xs ++ ys)) ≡ present (values_in xs) ++ present (values_in ys)
  any = ap present values ∙ present-append (values_in xs) (values_in ys)

  by : (k : Kind) → reads_places k ≡ false → agg k t (xs ++ ys) ≡ merged k t (agg k t xs) (agg k t ys)
  by kind.sum e = ap (λ (v : AnyValue). v ∷ []) (ap (total t) values ∙ total-append t (values_in xs) (values_in ys))
  by kind.mean e = ap (halves t) values ∙ halves-append t (values_in xs) (values_in ys)
  by kind.min e =
      ap (λ (v : AnyValue). v ∷ []) (ap (extreme lesser) any
      ∙ extreme-append value_cmp_total value_cmp-IsAntisymmetric lesser lesser_is_nearer lesser-holds (present (values_in xs)) (present (values_in ys)) (no_nulls (values_in xs)) (no_nulls (values_in ys)))
  by kind.max e =
      ap (λ (v : AnyValue). v ∷ []) (ap (extreme greater) any
      ∙ extreme-append (back_total value_cmp_total) (λ v w f. sym (value_cmp-IsAntisymmetric w v f)) greater greater_is_nearer greater-holds (present (values_in xs)) (present (values_in ys)) (no_nulls (values_in xs)) (no_nulls (values_in ys)))
  by kind.first e = cc
  by kind.last e = cc
  by kind.count e =
      ap (λ (v : AnyValue). v ∷ []) (ap (λ (l : List AnyValue). counted (length l)) any
      ∙ ap counted (length-append (present (values_in xs)) (present (values_in ys))) ∙ counted-append (length (present (values_in xs))) (length (present (values_in ys))))
  by kind.len e = ap (λ (v : AnyValue). v ∷ []) (ap counted (length-append xs ys) ∙ counted-append (length xs) (length ys))
