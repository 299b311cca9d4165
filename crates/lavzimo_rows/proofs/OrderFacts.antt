-- A stable sort is the one that definitions have.
use Rattle.std.proofs.Common.{◌≡◌, ◌∙◌, ◌<◌, ◌≤◌, ℕ, zero, suc, Bool, true, false, cond, List, [], ◌∷◌, length, get_or, map, filter, not, ◌&&◌, is_lt, refl, sym, ap, inl, inr, suc-le-suc, zero-le}
use Rattle.std.specs.List.{All}
use Rattle.std.specs.Cmp.{IsStrictWeakOrder}
use Rattle.std.specs.declared.cmp.Ordering.{Ordering}
use Rattle.std.specs.List.Sorted.{ties, IsSortedBy, IsStableBy}
use Rattle.std.proofs.lemmas.Bool.{cond-true, cond-false, cases_Bool}
use Rattle.std.proofs.lemmas.List.Elements.{All-cons, All-head, All-tail}
use Rattle.std.proofs.lemmas.List.Sorted.{sorted_far}
use Rattle.lavzimo_rows.specs.StableOrder.{in_order, put_in}

-- ---- filters

module _ {X : Type 0} (p : X → Bool) where
  filter-kept : (y : X) (ys : List X) → p y ≡ true → filter p (y ∷ ys) ≡ y ∷ filter p ys
  filter-kept y ys h = cond-true _ _ _ h

  filter-dropped : (y : X) (ys : List X) → p y ≡ false → filter p (y ∷ ys) ≡ filter p ys
  filter-dropped y ys h = cond-false _ _ _ h

-- ---- ties

both_false : (a b : Bool) → not a && not b ≡ true → (a ≡ false) × (b ≡ false)
both_false true b h = cc
both_false false true h = cc
both_false false false h = (refl, refl)

from_false : (a b : Bool) → a ≡ false → b ≡ false → not a && not b ≡ true
from_false a b e f = rw (e, f) refl

-- ---- lists that rise by an order

module _ {X : Type 0} (order : X → X → Ordering) (o : IsStrictWeakOrder (λ (x y : X). is_lt (order x y))) where
  -- whether one is less
  abbrev lt : X → X → Bool
  lt x y = is_lt (order x y)

  -- whether two tie
  abbrev same : X → X → Bool
  same = ties lt

  same-parts : (x y : X) → same x y ≡ true → (lt x y ≡ false) × (lt y x ≡ false)
  same-parts x y h = both_false (lt x y) (lt y x) h

  same-from : (x y : X) → lt x y ≡ false → lt y x ≡ false → same x y ≡ true
  same-from x y e f = from_false (lt x y) (lt y x) e f

  -- nothing is less than itself
  less-itself : (x : X) → lt x x ≡ false
  less-itself x = elim (cases_Bool (lt x x)) [ inl less ↦ o.one_way x x less | inr other ↦ other ]

  same-itself : (x : X) → same x x ≡ true
  same-itself x = same-from x x (less-itself x) (less-itself x)

  put-stays : (c d : X) (ds : List X) → lt d c ≡ false → put_in order c (d ∷ ds) ≡ c ∷ d ∷ ds
  put-stays c d ds h = cond-false _ _ _ h

  put-past : (c d : X) (ds : List X) → lt d c ≡ true → put_in order c (d ∷ ds) ≡ d ∷ put_in order c ds
  put-past c d ds h = cond-true _ _ _ h

  -- what ties stays in its order where an element is put in
  filter-put : (x c : X) (ds : List X) → filter (same x) (put_in order c ds) ≡ filter (same x) (c ∷ ds)
  filter-put x c [] = refl
  filter-put x c (d ∷ ds) =
      let p : X → Bool = same x in
      elim (cases_Bool (lt d c)) [
        | inr stays ↦ ap (filter p) (put-stays c d ds stays)
        | inl past ↦
            ap (filter p) (put-past c d ds past)
            ∙ elim (cases_Bool (p d)) [
              | inr without ↦
                  filter-dropped p d (put_in order c ds) without ∙ filter-put x c ds
                  ∙ ap (λ (l : List X). cond (p c) (c ∷ l) l) (sym (filter-dropped p d ds without))
              | inl with ↦
                  elim (cases_Bool (p c)) [
                    | inl both ↦
                        let no : lt d c ≡ false = o.chain d x c (same-parts x d with).1 (same-parts x c both).0 in
                        cc
                    | inr only ↦
                        filter-kept p d (put_in order c ds) with ∙ ap (λ (l : List X). d ∷ l) (filter-put x c ds ∙ filter-dropped p c ds only)
                        ∙ sym (filter-dropped p c (d ∷ ds) only ∙ filter-kept p d ds with)
                  ]
            ]
      ]

  filter-in_order : (x : X) (cs : List X) → filter (same x) (in_order order cs) ≡ filter (same x) cs
  filter-in_order x [] = refl
  filter-in_order x (c ∷ cs) =
      filter-put x c (in_order order cs) ∙ ap (λ (l : List X). cond (same x c) (c ∷ l) l) (filter-in_order x cs)

  -- none of some elements is less than one
  abbrev AreAtLeast : X → List X → Type 0
  AreAtLeast n [] = Unit {0}
  AreAtLeast n (y ∷ ys) = (lt y n ≡ false) × AreAtLeast n ys

  -- no element is less than one before it
  abbrev Rises : List X → Type 0
  Rises [] = Unit {0}
  Rises (y ∷ ys) = AreAtLeast y ys × Rises ys

  AreAtLeast-le : (n m : X) (ys : List X) → lt m n ≡ false → AreAtLeast m ys → AreAtLeast n ys
  AreAtLeast-le n m [] le h = tt
  AreAtLeast-le n m (y ∷ ys) le h = (o.chain y m n h.0 le, AreAtLeast-le n m ys le h.1)

  AreAtLeast-put : (n c : X) (ds : List X) → lt c n ≡ false → AreAtLeast n ds → AreAtLeast n (put_in order c ds)
  AreAtLeast-put n c [] le h = (le, tt)
  AreAtLeast-put n c (d ∷ ds) le h =
      elim (cases_Bool (lt d c)) [
        | inr stays ↦ rw (put-stays c d ds stays) (le, h)
        | inl past ↦ rw (put-past c d ds past) (h.0, AreAtLeast-put n c ds le h.1)
      ]

  Rises-put : (c : X) (ds : List X) → Rises ds → Rises (put_in order c ds)
  Rises-put c [] h = (tt, tt)
  Rises-put c (d ∷ ds) h =
      elim (cases_Bool (lt d c)) [
        | inr stays ↦ rw (put-stays c d ds stays) ((stays, AreAtLeast-le c d ds stays h.0), h)
        | inl past ↦ rw (put-past c d ds past) (AreAtLeast-put d c ds (o.one_way d c past) h.0, Rises-put c ds h.1)
      ]

  Rises-in_order : (cs : List X) → Rises (in_order order cs)
  Rises-in_order [] = tt
  Rises-in_order (c ∷ cs) = Rises-put c (in_order order cs) (Rises-in_order cs)

  AreAtLeast-at : (d n : X) (ys : List X) → ((j : ℕ) → j < length ys → lt (get_or ys j d) n ≡ false) → AreAtLeast n ys
  AreAtLeast-at d n [] h = tt
  AreAtLeast-at d n (y ∷ ys) h = (h zero (suc-le-suc zero-le), AreAtLeast-at d n ys (λ j within. h (suc j) (suc-le-suc within)))

  Rises-from_far : (ys : List X) → ((i j : ℕ) (d : X) → i ≤ j → j < length ys → lt (get_or ys j d) (get_or ys i d) ≡ false) → Rises ys
  Rises-from_far [] h = tt
  Rises-from_far (y ∷ ys) h = (
    AreAtLeast-at y y ys (λ j within. h zero (suc j) y zero-le (suc-le-suc within)),
    Rises-from_far ys (λ i j d le within. h (suc i) (suc j) d (suc-le-suc le) (suc-le-suc within)),
  )

  AreAtLeast-found : (n x : X) (ys : List X) (w : X) (ws : List X) → AreAtLeast n ys → filter (same x) ys ≡ w ∷ ws → lt x n ≡ false
  AreAtLeast-found n x [] w ws h e = cc
  AreAtLeast-found n x (y ∷ ys) w ws h e =
      elim (cases_Bool (same x y)) [
        | inl with ↦ o.chain x y n (same-parts x y with).0 h.0
        | inr without ↦ AreAtLeast-found n x ys w ws h.1 (sym (filter-dropped (same x) y ys without) ∙ e)
      ]

  -- lists that rise, and have the same elements of each tie in the same order, are the same
  pub same_from_classes : (ys zs : List X) → Rises ys → Rises zs → ((x : X) → filter (same x) ys ≡ filter (same x) zs) → ys ≡ zs
  same_from_classes [] [] left right alike = refl
  same_from_classes [] (z ∷ zs) left right alike =
      let clash = alike z ∙ filter-kept (same z) z zs (same-itself z) in cc
  same_from_classes (y ∷ ys) [] left right alike =
      let clash = sym (alike y) ∙ filter-kept (same y) y ys (same-itself y) in cc
  same_from_classes (y ∷ ys) (z ∷ zs) left right alike =
      let at_y = filter-kept (same y) y ys (same-itself y) in
      let at_z = filter-kept (same z) z zs (same-itself z) in
      let up : lt y z ≡ false = AreAtLeast-found z y (z ∷ zs) y _ (less-itself z, right.0) (sym (alike y) ∙ at_y) in
      let down : lt z y ≡ false = AreAtLeast-found y z (y ∷ ys) z _ (less-itself y, left.0) (alike z ∙ at_z) in
      let heads = sym at_y ∙ alike y ∙ filter-kept (same y) z zs (same-from y z up down) in
      let head : y ≡ z = cc in
      let tails : (x : X) → filter (same x) ys ≡ filter (same x) zs =
      λ x. elim (cases_Bool (same x y)) [
        | inl with ↦
            let both = sym (filter-kept (same x) y ys with) ∙ alike x ∙ filter-kept (same x) z zs (ap (same x) (sym head) ∙ with) in cc
        | inr without ↦
            sym (filter-dropped (same x) y ys without) ∙ alike x ∙ filter-dropped (same x) z zs (ap (same x) (sym head) ∙ without)
      ] in
      ap (λ w. w ∷ ys) head ∙ ap (λ l. z ∷ l) (same_from_classes ys zs left.1 right.1 tails)

  -- what a stable sort gives
  pub sorted_is : (xs ys : List X) → IsSortedBy lt ys → IsStableBy lt xs ys → ys ≡ in_order order xs
  sorted_is xs ys sorted stable =
      same_from_classes ys (in_order order xs) (Rises-from_far ys (sorted_far lt o ys sorted)) (Rises-in_order xs)
      (λ x. stable x ∙ sym (filter-in_order x xs))

-- ---- orders by what a function gives

module _ {X Y : Type 0} (f : X → Y) (order : Y → Y → Ordering) where
  map-put : (x : X) (xs : List X) → map f (put_in (λ a b. order (f a) (f b)) x xs) ≡ put_in order (f x) (map f xs)
  map-put x [] = refl
  map-put x (y ∷ ys) = put_at (is_lt (order (f y) (f x))) (map-put x ys) where
    put_at : (less : Bool) → map f (put_in (λ a b. order (f a) (f b)) x ys) ≡ put_in order (f x) (map f ys)
        → map f (cond less (y ∷ put_in (λ a b. order (f a) (f b)) x ys) (x ∷ y ∷ ys)) ≡ cond less (f y ∷ put_in order (f x) (map f ys)) (f x ∷ f y ∷ map f ys)
    put_at true rest = ap (λ (l : List Y). f y ∷ l) rest
    put_at false rest = refl

  -- what a function gives of a list in order
  pub map-in_order : (xs : List X) → map f (in_order (λ a b. order (f a) (f b)) xs) ≡ in_order order (map f xs)
  map-in_order [] = refl
  map-in_order (x ∷ xs) = map-put x (in_order (λ a b. order (f a) (f b)) xs) ∙ ap (put_in order (f x)) (map-in_order xs)

-- ---- what holds of the elements

module _ {X : Type 0} (P : X → Type 0) (order : X → X → Ordering) where
  put-holds : (x : X) (xs : List X) → P x → All P xs → All P (put_in order x xs)
  put-holds x [] p h = All-cons P x [] p h
  put-holds x (y ∷ ys) p h = put_at (is_lt (order y x)) (put-holds x ys p (All-tail P y ys h)) where
    put_at : (less : Bool) → All P (put_in order x ys) → All P (cond less (y ∷ put_in order x ys) (x ∷ y ∷ ys))
    put_at true rest = All-cons P y (put_in order x ys) (All-head P y ys h) rest
    put_at false rest = All-cons P x (y ∷ ys) p h

  -- what holds of all holds of them in order
  pub in_order-holds : (xs : List X) → All P xs → All P (in_order order xs)
  in_order-holds [] h = h
  in_order-holds (x ∷ xs) h = put-holds x (in_order order xs) (All-head P x xs h) (in_order-holds xs (All-tail P x xs h))

module _ {X : Type 0} (P : X → Type 0) (R Q : X → X → Ordering) (same : (a b : X) → P a → P b → R a b ≡ Q a b) where
  put-same : (x : X) (xs : List X) → P x → All P xs → put_in R x xs ≡ put_in Q x xs
  put-same x [] p h = refl
  put-same x (y ∷ ys) p h = rw (same y x (All-head P y ys h) p, put-same x ys p (All-tail P y ys h)) refl

  -- orders that agree on the elements give the same
  pub in_order-same : (xs : List X) → All P xs → in_order R xs ≡ in_order Q xs
  in_order-same [] h = refl
  in_order-same (x ∷ xs) h =
      put-same x (in_order R xs) (All-head P x xs h) (in_order-holds P R xs (All-tail P x xs h))
      ∙ ap (put_in Q x) (in_order-same xs (All-tail P x xs h))
