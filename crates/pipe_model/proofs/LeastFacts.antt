-- The least element of a list, of two lists together, and of other lists of the same elements.
use Rattle.std.proofs.Common.{◌≡◌, ◌∙◌, false, List, [], ◌∷◌, ◌++◌, Option, Some, None, ◌⊎◌, refl, sym, ap, subst, append_assoc, arith}
use Rattle.std.specs.declared.cmp.Ordering.{Ordering}
use Rattle.std.specs.declared.cmp.Ordering.TheVariants.{Less, Equal, Greater}
use Rattle.std.specs.Cmp.{IsTotalOrder}
use Rattle.std.specs.List.{All, Contains, fold}
use Rattle.std.specs.List.Sorted.{IsPermutation}
use Rattle.std.specs.Ordering.{is_gt, match_ordering, ordering_reverse}
use Rattle.std.proofs.lemmas.Cmp.{tied_itself, upto}
use Rattle.std.proofs.lemmas.List.{append-nil}
use Rattle.std.proofs.lemmas.List.Elements.{All-append, All-cons, All-contains, All-contains_itself, All-nil, All-weaker, Contains-append_left, Contains-append_right, Contains-push}
use Rattle.std.proofs.lemmas.List.Sorted.{Contains-permutation, IsPermutation-sym}
use mathlib.Core.Logic.{inl, inr, ⊎_elim}
use Rattle.pipe_model.specs.Least.{HoldsLeast, IsLeast}

module _ {X : Type 0} {R : X → X → Ordering} (o : IsTotalOrder R) where
  -- one of two elements than which neither is lesser
  pub record IsNearer (z x y : X) : Type 0 where
    pub under_first : is_gt (R z x) ≡ false
    pub under_second : is_gt (R z y) ≡ false
    pub either : (z ≡ x) ⊎ (z ≡ y)

  -- no element is greater than itself
  under_itself : (x : X) → is_gt (R x x) ≡ false
  under_itself x = ap is_gt (tied_itself o x)

  -- the first of two is the nearer where it is not the greater
  first_is_nearer : (x y : X) → is_gt (R x y) ≡ false → IsNearer x x y
  first_is_nearer x y e = record { under_first = under_itself x; under_second = e; either = inl refl }

  -- and so is the second
  second_is_nearer : (x y : X) → is_gt (R y x) ≡ false → IsNearer y x y
  second_is_nearer x y e = record { under_first = e; under_second = under_itself y; either = inr refl }

  -- the second of two stays on a tie
  pub second_on_ties : (x y : X) → IsNearer (match_ordering (R x y) x y y) x y
  second_on_ties x y = by (R x y) refl where
    by : (r : Ordering) → R x y ≡ r → IsNearer (match_ordering r x y y) x y
    by Less e = first_is_nearer x y (ap is_gt e)
    by Equal e = second_is_nearer x y (ap is_gt (o.antisymm y x ∙ ap ordering_reverse e))
    by Greater e = second_is_nearer x y (ap is_gt (o.antisymm y x ∙ ap ordering_reverse e))

  -- the first of two stays on a tie
  pub first_on_ties : (x y : X) → IsNearer (match_ordering (R x y) x x y) x y
  first_on_ties x y = by (R x y) refl where
    by : (r : Ordering) → R x y ≡ r → IsNearer (match_ordering r x x y) x y
    by Less e = first_is_nearer x y (ap is_gt e)
    by Equal e = first_is_nearer x y (ap is_gt e)
    by Greater e = second_is_nearer x y (ap is_gt (o.antisymm y x ∙ ap ordering_reverse e))

  -- the nearer of two is that of the two the other way round
  pub swapped : (z x y : X) → IsNearer z x y → IsNearer z y x
  swapped z x y n = record { under_first = n.under_second; under_second = n.under_first; either = ⊎_elim inr inl n.either }

  -- what lies under an element lies under what that one lies under
  bound-under : (z x : X) (xs : List X) → is_gt (R z x) ≡ false → All (λ y. is_gt (R x y) ≡ false) xs → All (λ y. is_gt (R z y) ≡ false) xs
  bound-under z x xs e all = All-weaker (λ y. is_gt (R x y) ≡ false) (λ y. is_gt (R z y) ≡ false) (λ y f. upto o z x y e f) xs all

  -- the nearer of the least of two lists is that of both together
  pub least-both : (z x y : X) (xs ys : List X) → IsNearer z x y → IsLeast R x xs → IsLeast R y ys → IsLeast R z (xs ++ ys)
  least-both z x y xs ys n a b = record {
    within = ⊎_elim
        (λ e. Contains-append_left xs ys z (subst (Contains xs) (sym e) a.within))
        (λ e. Contains-append_right xs ys z (subst (Contains ys) (sym e) b.within))
        n.either;
    bound = All-append (λ w. is_gt (R z w) ≡ false) xs ys (bound-under z x xs n.under_first a.bound) (bound-under z y ys n.under_second b.bound);
  }

  -- an element alone is the least
  pub least-one : (x : X) → IsLeast R x (x ∷ [])
  least-one x = record { within = Contains-push [] x; bound = All-cons (λ y. is_gt (R x y) ≡ false) x [] (under_itself x) (All-nil (λ y. is_gt (R x y) ≡ false)) }

  -- a choice of the nearer, folded over a list
  pub least-fold : (choose : X → X → X) → ((x y : X) → IsNearer (choose x y) x y) → (x : X) (xs ys : List X) → IsLeast R x xs → IsLeast R (fold choose x ys) (xs ++ ys)
  least-fold choose nearer x xs [] h = subst (IsLeast R x) (sym (append-nil xs)) h
  least-fold choose nearer x xs (y ∷ ys) h =
      subst (IsLeast R (fold choose (choose x y) ys)) (append_assoc xs (y ∷ []) ys)
      (least-fold choose nearer (choose x y) (xs ++ y ∷ []) ys (least-both (choose x y) x y xs (y ∷ []) (nearer x y) h (least-one y)))

  -- two elements of which neither is greater tie
  not_greater : (x y : X) → is_gt (R x y) ≡ false → is_gt (R y x) ≡ false → R x y ≡ Equal
  not_greater x y e f = by (R x y) refl where
    by : (r : Ordering) → R x y ≡ r → R x y ≡ Equal
    by Less d = let g : R y x ≡ Greater = o.antisymm y x ∙ ap ordering_reverse d in cc
    by Equal d = d
    by Greater d = cc

  -- two least elements tie
  pub least-tie : (x y : X) (xs : List X) → IsLeast R x xs → IsLeast R y xs → R x y ≡ Equal
  least-tie x y xs a b =
      not_greater x y (All-contains (λ w. is_gt (R x w) ≡ false) xs y a.bound b.within) (All-contains (λ w. is_gt (R y w) ≡ false) xs x b.bound a.within)

  -- of elements that tie only where they are the same there is one least
  pub holds-unique : (xs : List X) → ((x y : X) → Contains xs x → Contains xs y → R x y ≡ Equal → x ≡ y)
      → (a b : Option X) → HoldsLeast R a xs → HoldsLeast R b xs → a ≡ b
  holds-unique xs one None None h k = refl
  holds-unique xs one None (Some y) h k = let c : Contains [] y = subst (λ (l : List X). Contains l y) h k.within in absurd (omega (arith, c.1))
  holds-unique xs one (Some x) None h k = let c : Contains [] x = subst (λ (l : List X). Contains l x) k h.within in absurd (omega (arith, c.1))
  holds-unique xs one (Some x) (Some y) h k = ap Some (one x y h.within k.within (least-tie x y xs h k))

-- ---- other lists of the same elements

-- a list whose elements are in the empty one is empty
nothing : {X : Type 0} (xs : List X) → ((x : X) → Contains xs x → Contains [] x) → xs ≡ []
nothing [] h = refl
nothing (x ∷ xs) h = none (h x (Contains-append_left (x ∷ []) xs x (Contains-push [] x))) where
  none : Contains [] x → x ∷ xs ≡ []
  none c = absurd (omega (arith, c.1))

-- what is held of a list is held of each list of the same elements
pub holds-same : {X : Type 0} (R : X → X → Ordering) (a : Option X) (xs ys : List X)
    → ((x : X) → Contains xs x → Contains ys x) → ((x : X) → Contains ys x → Contains xs x) → HoldsLeast R a xs → HoldsLeast R a ys
holds-same R None xs ys to from h = nothing ys (λ y c. subst (λ l. Contains l y) h (from y c))
holds-same R (Some x) xs ys to from h = record {
  within = to x h.within;
  bound = All-weaker (Contains ys) (λ y. is_gt (R x y) ≡ false) (λ y c. All-contains (λ w. is_gt (R x w) ≡ false) xs y h.bound (from y c)) ys (All-contains_itself ys);
}

-- so of a list in another order
pub holds-moved : {X : Type 0} (R : X → X → Ordering) (a : Option X) (xs ys : List X) → IsPermutation xs ys → HoldsLeast R a xs → HoldsLeast R a ys
holds-moved R a xs ys moved h =
    holds-same R a xs ys (λ x c. Contains-permutation xs ys x moved c) (λ x c. Contains-permutation ys xs x (IsPermutation-sym xs ys moved) c) h
