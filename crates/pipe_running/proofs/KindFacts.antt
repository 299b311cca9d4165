-- What each kind of running aggregate stands for after one more value, and together with another.
use Rattle.std.proofs.Common.{◌≡◌, ◌∙◌, ℕ, ◌+◌, ℤ, pos, ◌+ℤ◌, Bool, true, false, ◌||◌, nat_lt, not, List, [], ◌∷◌, ◌++◌, Option, Some, None, refl, sym, ap, subst, arith}
use Rattle.std.specs.declared.cmp.Ordering.{Ordering}
use Rattle.std.specs.declared.cmp.Ordering.TheVariants.{Less, Equal, Greater}
use Rattle.std.specs.Cmp.{IsTotalOrder}
use Rattle.std.specs.Ordering.{int_cmp, match_ordering}
use Rattle.std.proofs.lemmas.Cmp.{back_total}
use Rattle.std.proofs.lemmas.Int.{ints}
use Rattle.std.proofs.lemmas.List.{append-nil}
use Rattle.std.specs.List.Sorted.{IsPermutation}
use Rattle.pipe_columns.specs.declared.any_value.AnyValue.{AnyValue}
use Rattle.pipe_columns.specs.declared.any_value.AnyValue.TheVariants as av
use Rattle.pipe_columns.specs.declared.place.Place.{Place}
use Rattle.pipe_columns.specs.AnyValue.{fits, is_null}
use Rattle.pipe_columns.proofs.ValueOrder.{value_cmp_total}
use Rattle.pipe_native.specs.Native.{IsNative, Native}
use Rattle.pipe_running.specs.declared.min_max.Direction.{Direction}
use Rattle.pipe_running.specs.declared.min_max.Direction.TheVariants as direction
use Rattle.pipe_running.specs.declared.min_max.MinMaxAgg.{MinMaxAgg}
use Rattle.pipe_running.specs.declared.sum.SumAgg.{SumAgg}
use Rattle.pipe_model.specs.Aggregate.{addend, exact_sum, present, values_in}
use Rattle.pipe_model.specs.Least.{HoldsLeast}
use Rattle.pipe_running.specs.Mean.{MeanState}
use Rattle.pipe_running.specs.Pick.{nearest}
use Rattle.pipe_running.specs.Stands.{ExtremeStands, held_value, MeanStands, SumStands, tally, value_order}
use Rattle.pipe_running.specs.Transitions.{count_after, extreme_after, extremes_joined, mean_after, means_joined, native_order, same_direction, sum_after, sum_state_after, sums_joined}
use Rattle.pipe_model.proofs.LeastFacts.{holds-moved}
use Rattle.pipe_running.proofs.NearestFacts.{holds-after, holds-joined}
use Rattle.pipe_running.proofs.TallyFacts.{present_in-append, present_in-moved, sum_in-append, sum_in-moved, tally-append, tally-moved}

-- ---- counts

-- a count with one more value
pub count-after : (include_null : Bool) (p : Place) (v : AnyValue) (n : ℕ) (xs : List (Place × AnyValue))
    → n ≡ tally include_null xs → count_after include_null v n ≡ tally include_null (xs ++ (p, v) ∷ [])
count-after true p v n xs e = let both = tally-append true xs ((p, v) ∷ []) in omega arith
count-after false p av.Null n xs e = let both = tally-append false xs ((p, av.Null) ∷ []) in omega arith
count-after false p (av.Boolean b) n xs e = let both = tally-append false xs ((p, av.Boolean b) ∷ []) in omega arith
count-after false p (av.Int m) n xs e = let both = tally-append false xs ((p, av.Int m) ∷ []) in omega arith
count-after false p (av.Text s) n xs e = let both = tally-append false xs ((p, av.Text s) ∷ []) in omega arith

-- two counts together
pub count-joined : (include_null : Bool) (m n : ℕ) (xs ys : List (Place × AnyValue))
    → m ≡ tally include_null xs → n ≡ tally include_null ys → m + n ≡ tally include_null (xs ++ ys)
count-joined include_null m n xs ys e f = let both = tally-append include_null xs ys in omega arith

-- ---- means

-- a mean with one more value
pub mean-after : (p : Place) (v : AnyValue) (a : MeanState) (xs : List (Place × AnyValue)) → MeanStands a xs → MeanStands (mean_after v a) (xs ++ (p, v) ∷ [])
mean-after p v a xs h = record {
  sum = let both = sum_in-append xs ((p, v) ∷ []) in let held = h.sum in omega (arith, ints);
  count = count-after false p v a.count xs h.count;
}

-- two means together
pub mean-joined : (a b : MeanState) (xs ys : List (Place × AnyValue)) → MeanStands a xs → MeanStands b ys → MeanStands (means_joined a b) (xs ++ ys)
mean-joined a b xs ys h k = record {
  sum = (λ i. h.sum i +ℤ k.sum i) ∙ sym (sum_in-append xs ys);
  count = count-joined false a.count b.count xs ys h.count k.count;
}

-- ---- sums

-- of two numbers together one is above 0 where one of both is
some_came : (m n : ℕ) → nat_lt 0 m || nat_lt 0 n ≡ nat_lt 0 (m + n)
some_came m n = grind arith

-- a sum of two numbers is that of the second and the first
plus_swaps : (m n : ℤ) → m +ℤ n ≡ n +ℤ m
plus_swaps m n = omega (arith, ints)

module _ {K : Type 0} (k : Native K) (native : IsNative k) where
  -- a number is added to a wrapped one, before and after wrapping
  adds_on : (m n : ℤ) → k.wrap (k.number (k.wrap m) +ℤ n) ≡ k.wrap (m +ℤ n)
  adds_on m n = ap k.wrap (plus_swaps (k.number (k.wrap m)) n) ∙ native.adds n m ∙ ap k.wrap (plus_swaps n m)

  -- a wrapped sum with one more value is that of the exact one
  sum-more : (v : AnyValue) (sum : K) (n : ℤ) → sum ≡ k.wrap n → sum_after k v sum ≡ k.wrap (n +ℤ (pos 0 +ℤ addend v))
  sum-more av.Null sum n e = e ∙ ap k.wrap (omega (arith, ints))
  sum-more (av.Boolean true) sum n e = ap (λ (s : K). k.wrap (k.number s +ℤ pos 1)) e ∙ adds_on n (pos 1)
  sum-more (av.Boolean false) sum n e = e ∙ ap k.wrap (omega (arith, ints))
  sum-more (av.Int m) sum n e = ap (λ (s : K). k.wrap (k.number s +ℤ m)) e ∙ adds_on n m ∙ ap k.wrap (omega (arith, ints))
  sum-more (av.Text t) sum n e = e ∙ ap k.wrap (omega (arith, ints))

  -- whether a value came, with one more
  came-more : (p : Place) (v : AnyValue) (came : Bool) (xs : List (Place × AnyValue)) → came ≡ nat_lt 0 (tally false xs)
      → came || not (is_null v) ≡ nat_lt 0 (tally false (xs ++ (p, v) ∷ []))
  came-more p v came xs e = ap (λ (b : Bool). b || not (is_null v)) e ∙ one v ∙ ap (nat_lt 0) (sym (tally-append false xs ((p, v) ∷ []))) where
    one : (v : AnyValue) → nat_lt 0 (tally false xs) || not (is_null v) ≡ nat_lt 0 (tally false xs + tally false ((p, v) ∷ []))
    one av.Null = some_came (tally false xs) 0
    one (av.Boolean b) = some_came (tally false xs) 1
    one (av.Int n) = some_came (tally false xs) 1
    one (av.Text t) = some_came (tally false xs) 1

  -- a sum with one more value
  pub sum-after : (p : Place) (v : AnyValue) (a : SumAgg K) (xs : List (Place × AnyValue)) → SumStands k a xs → SumStands k (sum_state_after k v a) (xs ++ (p, v) ∷ [])
  sum-after p v a xs h = record {
    sum = sum-more v a.sum (exact_sum (values_in xs)) h.sum ∙ ap k.wrap (sym (sum_in-append xs ((p, v) ∷ [])));
    came = came-more p v a.came xs h.came;
  }

  -- two sums together
  pub sum-joined : (a b : SumAgg K) (xs ys : List (Place × AnyValue)) → SumStands k a xs → SumStands k b ys → SumStands k (sums_joined k a b) (xs ++ ys)
  sum-joined a b xs ys h j = record {
    sum = (λ i. k.wrap (k.number (h.sum i) +ℤ k.number (j.sum i)))
        ∙ native.adds (k.number (k.wrap (exact_sum (values_in xs)))) (exact_sum (values_in ys))
        ∙ adds_on (exact_sum (values_in xs)) (exact_sum (values_in ys))
        ∙ ap k.wrap (sym (sum_in-append xs ys));
    came = (λ i. h.came i || j.came i) ∙ some_came (tally false xs) (tally false ys) ∙ ap (nat_lt 0) (sym (tally-append false xs ys));
  }

-- a sum of another order
pub sum-moved : {K : Type 0} (k : Native K) (a : SumAgg K) (xs ys : List (Place × AnyValue)) → IsPermutation xs ys → SumStands k a xs → SumStands k a ys
sum-moved k a xs ys moved h = record { sum = h.sum ∙ ap k.wrap (sum_in-moved xs ys moved); came = h.came ∙ ap (nat_lt 0) (tally-moved false xs ys moved) }

-- ---- orders

-- values in a direction are in a total order
pub value_order-total : (d : Direction) → IsTotalOrder (value_order d)
value_order-total direction.Min = value_cmp_total
value_order-total direction.Max = back_total value_cmp_total

-- ---- least and greatest

-- directions that are the same are one
pub directions-same : (d f : Direction) → same_direction d f ≡ true → d ≡ f
directions-same direction.Min direction.Min e = refl
directions-same direction.Min direction.Max e = cc
directions-same direction.Max direction.Min e = cc
directions-same direction.Max direction.Max e = refl

module _ {K : Type 0} (k : Native K) (native : IsNative k) where
  -- a choice of two numbers is that of their values
  one_held : (r : Ordering) (m n : K) → Some (av.Int (k.number (match_ordering r m n n))) ≡ Some (match_ordering r (av.Int (k.number m)) (av.Int (k.number n)) (av.Int (k.number n)))
  one_held Less m n = refl
  one_held Equal m n = refl
  one_held Greater m n = refl

  -- the nearer of two numbers, as a value, is the nearer of their values
  held-nearest : (d : Direction) (b a : Option K) → held_value k (nearest (native_order k d) b a) ≡ nearest (value_order d) (held_value k b) (held_value k a)
  held-nearest d None a = refl
  held-nearest d (Some m) None = refl
  held-nearest direction.Min (Some m) (Some n) = one_held (int_cmp (k.number m) (k.number n)) m n
  held-nearest direction.Max (Some m) (Some n) = one_held (int_cmp (k.number n) (k.number m)) m n

  -- two minimums or maximums together
  pub extreme-joined : (a b : MinMaxAgg K) (xs ys : List (Place × AnyValue)) → same_direction a.direction b.direction ≡ true → ExtremeStands k a xs → ExtremeStands k b ys → ExtremeStands k (extremes_joined k a b) (xs ++ ys)
  extreme-joined a b xs ys e h j =
      subst (λ (held : Option AnyValue). HoldsLeast (value_order a.direction) held (present (values_in (xs ++ ys)))) (sym (held-nearest a.direction b.extreme a.extreme))
      (subst (HoldsLeast (value_order a.direction) (nearest (value_order a.direction) (held_value k b.extreme) (held_value k a.extreme))) (sym (present_in-append xs ys))
      (holds-joined (value_order-total a.direction) (held_value k a.extreme) (held_value k b.extreme) (present (values_in xs)) (present (values_in ys)) h
      (subst (λ (d : Direction). HoldsLeast (value_order d) (held_value k b.extreme) (present (values_in ys))) (sym (directions-same a.direction b.direction e)) j)))

  -- a minimum or maximum with one more value of its type
  pub extreme-after : (p : Place) (v : AnyValue) (a : MinMaxAgg K) (xs : List (Place × AnyValue)) → fits v k.dtype ≡ true → ExtremeStands k a xs → ExtremeStands k (extreme_after k v a) (xs ++ (p, v) ∷ [])
  extreme-after p av.Null a xs e h = subst (HoldsLeast (value_order a.direction) (held_value k a.extreme)) (sym (present_in-append xs ((p, av.Null) ∷ []) ∙ append-nil (present (values_in xs)))) h
  extreme-after p (av.Boolean b) a xs e h = let no = native.no_boolean in cc
  extreme-after p (av.Int n) a xs e h =
      let whole = k.wrap n in
      subst (λ (held : Option AnyValue). HoldsLeast (value_order a.direction) held (present (values_in (xs ++ (p, av.Int n) ∷ [])))) (sym (held-nearest a.direction (Some whole) a.extreme))
      (subst (λ (z : ℤ). HoldsLeast (value_order a.direction) (nearest (value_order a.direction) (Some (av.Int z)) (held_value k a.extreme)) (present (values_in (xs ++ (p, av.Int n) ∷ [])))) (sym (native.keeps n e))
      (subst (HoldsLeast (value_order a.direction) (nearest (value_order a.direction) (Some (av.Int n)) (held_value k a.extreme))) (sym (present_in-append xs ((p, av.Int n) ∷ [])))
      (holds-after (value_order-total a.direction) (held_value k a.extreme) (present (values_in xs)) (av.Int n) h)))
  extreme-after p (av.Text t) a xs e h = let no = native.no_string in cc

-- a minimum or maximum of another order
pub extreme-moved : {K : Type 0} (k : Native K) (a : MinMaxAgg K) (xs ys : List (Place × AnyValue)) → IsPermutation xs ys → ExtremeStands k a xs → ExtremeStands k a ys
extreme-moved k a xs ys moved h = holds-moved (value_order a.direction) (held_value k a.extreme) (present (values_in xs)) (present (values_in ys)) (present_in-moved xs ys moved) h
