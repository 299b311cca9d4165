-- The first and the last entry of a list, and of the same list in another order.
use Rattle.std.proofs.Common.{◌≡◌, ◌∙◌, false, List, [], ◌∷◌, ◌++◌, map, Option, Some, None, option_map, ◌⊎◌, refl, sym, ap, subst, arith}
use Rattle.std.specs.declared.cmp.Ordering.{Ordering}
use Rattle.std.specs.declared.cmp.Ordering.TheVariants.{Less, Equal, Greater}
use Rattle.std.specs.Cmp.{back_total, IsTotalOrder, nat_cmp_total, on_total, then_total}
use Rattle.std.specs.FinMap.{nat_cmp-IsAntisymmetric}
use Rattle.std.specs.List.{All, AllByRecursion, Contains, IsDistinct}
use Rattle.std.specs.List.Sorted.{IsPermutation}
use Rattle.std.specs.Ordering.{eq_by_cmp, is_eq, nat_cmp, ordering_then}
use Rattle.std.proofs.lemmas.Cmp.{tied_back}
use Rattle.std.specs.Option.{option_to_list}
use Rattle.std.proofs.lemmas.List.{append-nil}
use Rattle.std.proofs.lemmas.List.Elements.{All-cons, All-contains, All-nil, Contains-append_cases, Contains-push_cases}
use Rattle.std.proofs.lemmas.List.Sorted.{IsPermutation-sym}
use mathlib.Core.Logic.{inl, inr, ⊎_elim}
use Rattle.pipe_columns.specs.declared.place.Place.{Place}
use Rattle.pipe_columns.specs.Place.{DistinctPlaces, earlier, first_entry, last_entry, later, place_cmp}
use Rattle.pipe_model.specs.Least.{by_place, from_last, HoldsLeast, IsLeast}
use Rattle.pipe_model.proofs.LeastFacts.{first_on_ties, holds-moved, holds-unique, least-both, least-one, least-tie, second_on_ties, swapped}

-- ---- the order of places

-- places are in a total order
pub place_total : IsTotalOrder place_cmp
place_total = then_total (on_total (λ (p : Place). p.chunk) nat_cmp_total) (on_total (λ (p : Place). p.row) nat_cmp_total)

-- where one order and then another tie, each ties
pub then_both : (r s : Ordering) → ordering_then r s ≡ Equal → (r ≡ Equal) × (s ≡ Equal)
then_both Less s e = cc
then_both Equal s e = (refl, e)
then_both Greater s e = cc

-- places that tie are the same
pub place_tie : (p q : Place) → place_cmp p q ≡ Equal → p ≡ q
place_tie p q e =
    let parts = then_both (nat_cmp p.chunk q.chunk) (nat_cmp p.row q.row) e in
    rw (nat_cmp-IsAntisymmetric p.chunk q.chunk parts.0, nat_cmp-IsAntisymmetric p.row q.row parts.1) refl

-- ---- elements whose places differ

module _ {X : Type 0} (place_of : X → Place) where
  -- a place that no element has, none of them has
  apart : (p : Place) (xs : List X) → AllByRecursion (λ q. eq_by_cmp place_cmp p q ≡ false) (map place_of xs) → All (λ x. eq_by_cmp place_cmp p (place_of x) ≡ false) xs
  apart p [] h = All-nil (λ (x : X). eq_by_cmp place_cmp p (place_of x) ≡ false)
  apart p (x ∷ xs) h = All-cons (λ (y : X). eq_by_cmp place_cmp p (place_of y) ≡ false) x xs h.0 (apart p xs h.1)

  -- what is in a list is its head or in its tail
  head_or_tail : (x : X) (xs : List X) (y : X) → Contains (x ∷ xs) y → (x ≡ y) ⊎ Contains xs y
  head_or_tail x xs y c = ⊎_elim (λ h. ⊎_elim (λ n. absurd (omega (arith, n.1))) inl (Contains-push_cases [] x y h)) inr (Contains-append_cases (x ∷ []) xs y c)

  -- elements at one place are one element, where no place stands twice
  pub one_at_a_place : (xs : List X) → IsDistinct (eq_by_cmp place_cmp) (map place_of xs) → (y z : X) → Contains xs y → Contains xs z → place_cmp (place_of y) (place_of z) ≡ Equal → y ≡ z
  unfolding IsDistinct
  one_at_a_place [] d y z c g tie = absurd (omega (arith, c.1))
  one_at_a_place (x ∷ xs) d y z c g tie = both (head_or_tail x xs y c) (head_or_tail x xs z g) (one_at_a_place xs d.1 y z) where
    far : (w : X) → Contains xs w → place_cmp (place_of x) (place_of w) ≡ Equal → y ≡ z
    far w h t = let not_same = All-contains (λ (v : X). eq_by_cmp place_cmp (place_of x) (place_of v) ≡ false) xs w (apart (place_of x) xs d.0) h in let same = ap is_eq t in cc

    both : (x ≡ y) ⊎ Contains xs y → (x ≡ z) ⊎ Contains xs z → (Contains xs y → Contains xs z → place_cmp (place_of y) (place_of z) ≡ Equal → y ≡ z) → y ≡ z
    both (inl a) (inl b) more = sym a ∙ b
    both (inl a) (inr b) more = far z b (ap (λ (w : X). place_cmp (place_of w) (place_of z)) a ∙ tie)
    both (inr a) (inl b) more = far y a (ap (λ (w : X). place_cmp (place_of w) (place_of y)) b ∙ tied_back place_total (place_of y) (place_of z) tie)
    both (inr a) (inr b) more = more a b tie

module _ {V : Type 0} where
  -- entries by their places are in a total order
  pub by_place-total : IsTotalOrder (by_place {V = V})
  by_place-total = on_total (λ (e : Place × V). e.0) place_total

  -- and so they are from the last place on
  pub from_last-total : IsTotalOrder (from_last {V = V})
  from_last-total = back_total by_place-total

  -- ---- the first entry and the last

  -- the first entry is the one at the least place
  pub first-holds : (es : List (Place × V)) → HoldsLeast by_place (first_entry es) es
  first-holds [] = refl
  first-holds (e ∷ es) = by (first_entry es) (first-holds es) where
    by : (o : Option (Place × V)) → HoldsLeast by_place o es → IsLeast by_place (earlier e o) (e ∷ es)
    by None h = subst (λ (l : List (Place × V)). IsLeast by_place e (e ∷ l)) (sym h) (least-one by_place-total e)
    by (Some f) h = least-both by_place-total (earlier e (Some f)) e f (e ∷ []) es (first_on_ties by_place-total e f) (least-one by_place-total e) h

  -- the last entry is the one at the greatest place
  pub last-holds : (es : List (Place × V)) → HoldsLeast from_last (last_entry es) es
  last-holds [] = refl
  last-holds (e ∷ es) = by (last_entry es) (last-holds es) where
    by : (o : Option (Place × V)) → HoldsLeast from_last o es → IsLeast from_last (later e o) (e ∷ es)
    by None h = subst (λ (l : List (Place × V)). IsLeast from_last e (e ∷ l)) (sym h) (least-one from_last-total e)
    by (Some f) h = least-both from_last-total (later e (Some f)) e f (e ∷ []) es (swapped from_last-total (later e (Some f)) f e (second_on_ties from_last-total f e)) (least-one from_last-total e) h

  -- ---- in another order

  -- where no place stands twice, another order has the same first entry
  pub first-moved : (xs ys : List (Place × V)) → IsPermutation xs ys → DistinctPlaces xs → first_entry xs ≡ first_entry ys
  first-moved xs ys moved d =
      holds-unique by_place-total xs (one_at_a_place (λ (e : Place × V). e.0) xs d) (first_entry xs) (first_entry ys) (first-holds xs)
      (holds-moved by_place (first_entry ys) ys xs (IsPermutation-sym xs ys moved) (first-holds ys))

  -- and the same last one
  pub last-moved : (xs ys : List (Place × V)) → IsPermutation xs ys → DistinctPlaces xs → last_entry xs ≡ last_entry ys
  last-moved xs ys moved d =
      holds-unique from_last-total xs (λ e f c g t. one_at_a_place (λ (e : Place × V). e.0) xs d e f c g (tied_back place_total f.0 e.0 t)) (last_entry xs) (last_entry ys) (last-holds xs)
      (holds-moved from_last (last_entry ys) ys xs (IsPermutation-sym xs ys moved) (last-holds ys))

  -- an empty list has no element
  nothing_there : (xs : List (Place × V)) (x : Place × V) → xs ≡ [] → Contains xs x → ⊥
  nothing_there xs x e c = let n : Contains [] x = subst (λ (l : List (Place × V)). Contains l x) e c in omega (arith, n.1)

  -- two least entries have one place
  same_least : (xs : List (Place × V)) (a b : Option (Place × V)) → HoldsLeast by_place a xs → HoldsLeast by_place b xs → option_map (λ e. e.0) a ≡ option_map (λ e. e.0) b
  same_least xs None None h k = refl
  same_least xs None (Some f) h k = absurd (nothing_there xs f h k.within)
  same_least xs (Some e) None h k = absurd (nothing_there xs e k h.within)
  same_least xs (Some e) (Some f) h k = ap Some (place_tie e.0 f.0 (least-tie by_place-total e f xs h k))

  -- where places may repeat, the place of the first entry is the same
  pub least_place-moved : (xs ys : List (Place × V)) → IsPermutation xs ys → option_map (λ e. e.0) (first_entry xs) ≡ option_map (λ e. e.0) (first_entry ys)
  least_place-moved xs ys moved = same_least xs (first_entry xs) (first_entry ys) (first-holds xs) (holds-moved by_place (first_entry ys) ys xs (IsPermutation-sym xs ys moved) (first-holds ys))

  -- ---- of joined lists

  -- the first of two first entries is the least of both lists
  first-both : (xs ys : List (Place × V)) (a b : Option (Place × V)) → HoldsLeast by_place a xs → HoldsLeast by_place b ys
      → HoldsLeast by_place (first_entry (option_to_list a ++ option_to_list b)) (xs ++ ys)
  first-both xs ys None None h k = λ i. h i ++ k i
  first-both xs ys None (Some f) h k = subst (λ (l : List (Place × V)). IsLeast by_place f (l ++ ys)) (sym h) k
  first-both xs ys (Some e) None h k = subst (λ (l : List (Place × V)). IsLeast by_place e (xs ++ l)) (sym k) (subst (IsLeast by_place e) (sym (append-nil xs)) h)
  first-both xs ys (Some e) (Some f) h k = least-both by_place-total (earlier e (Some f)) e f xs ys (first_on_ties by_place-total e f) h k

  -- where no place stands twice, it is the first entry of both joined
  pub first-append : (xs ys : List (Place × V)) → DistinctPlaces (xs ++ ys) → first_entry (xs ++ ys) ≡ first_entry (option_to_list (first_entry xs) ++ option_to_list (first_entry ys))
  first-append xs ys d =
      holds-unique by_place-total (xs ++ ys) (one_at_a_place (λ (e : Place × V). e.0) (xs ++ ys) d) (first_entry (xs ++ ys))
      (first_entry (option_to_list (first_entry xs) ++ option_to_list (first_entry ys))) (first-holds (xs ++ ys)) (first-both xs ys (first_entry xs) (first_entry ys) (first-holds xs) (first-holds ys))

  -- the last of two last entries is the greatest of both lists
  last-both : (xs ys : List (Place × V)) (a b : Option (Place × V)) → HoldsLeast from_last a xs → HoldsLeast from_last b ys
      → HoldsLeast from_last (last_entry (option_to_list a ++ option_to_list b)) (xs ++ ys)
  last-both xs ys None None h k = λ i. h i ++ k i
  last-both xs ys None (Some f) h k = subst (λ (l : List (Place × V)). IsLeast from_last f (l ++ ys)) (sym h) k
  last-both xs ys (Some e) None h k = subst (λ (l : List (Place × V)). IsLeast from_last e (xs ++ l)) (sym k) (subst (IsLeast from_last e) (sym (append-nil xs)) h)
  last-both xs ys (Some e) (Some f) h k = least-both from_last-total (later e (Some f)) e f xs ys (swapped from_last-total (later e (Some f)) f e (second_on_ties from_last-total f e)) h k

  -- where no place stands twice, it is the last entry of both joined
  pub last-append : (xs ys : List (Place × V)) → DistinctPlaces (xs ++ ys) → last_entry (xs ++ ys) ≡ last_entry (option_to_list (last_entry xs) ++ option_to_list (last_entry ys))
  last-append xs ys d =
      holds-unique from_last-total (xs ++ ys) (λ e f c g t. one_at_a_place (λ (e : Place × V). e.0) (xs ++ ys) d e f c g (tied_back place_total f.0 e.0 t)) (last_entry (xs ++ ys))
      (last_entry (option_to_list (last_entry xs) ++ option_to_list (last_entry ys))) (last-holds (xs ++ ys)) (last-both xs ys (last_entry xs) (last_entry ys) (last-holds xs) (last-holds ys))
