-- A stable sort by rank of a list that ascends: it ascends by rank, and where ranks tie as before.
use Rattle.std.proofs.Common.{◌≡◌, ℕ, suc, ◌<◌, ◌≤◌, Bool, true, false, cond, not, ◌&&◌, List, [], ◌∷◌, length, map, get_or, refl, sym, subst, arith}
use Rattle.std.specs.List.{All, filter}
use Rattle.std.specs.List.Sorted.{IsSortedByKey, IsStableByKey, ties}
use Rattle.std.specs.declared.cmp.Ordering.{Ordering}
use Rattle.std.specs.declared.cmp.Ordering.TheVariants.{Less, Equal, Greater}
use Rattle.std.specs.Ordering.{is_lt, ordering_reverse, ordering_then}
use Rattle.std.specs.Cmp.{IsTotalOrder, tied_itself}
use Rattle.std.proofs.lemmas.List.Elements.{All-head, All-tail}
use Rattle.std.proofs.lemmas.List.Sorted.{ranks_by, sorted_far}
use Rattle.pipe_columns.specs.Groups.{IsAscending}
use Rattle.pipe_columns.proofs.AscendingFacts.{Below}

-- ---- filters

module _ {X : Type 0} (T : X → X → Ordering) (p : X → Bool) where
  below_if : (x y : X) (l : List X) (b : Bool) → T x y ≡ Less → Below T x l → Below T x (cond b (y ∷ l) l)
  below_if x y l true e h = (e, h)
  below_if x y l false e h = h

  below-filter : (x : X) (xs : List X) → Below T x xs → Below T x (filter p xs)
  below-filter x [] h = tt
  below-filter x (y ∷ ys) h = below_if x y (filter p ys) (p y) h.0 (below-filter x ys h.1)

  ascends_if : (x : X) (l : List X) (b : Bool) → Below T x l → IsAscending T l → IsAscending T (cond b (x ∷ l) l)
  ascends_if x l true h a = (h, a)
  ascends_if x l false h a = a

  -- what passes a test ascends as all does
  ascending-filter : (xs : List X) → IsAscending T xs → IsAscending T (filter p xs)
  ascending-filter [] a = tt
  ascending-filter (x ∷ xs) a = ascends_if x (filter p xs) (p x) (below-filter x xs a.0) (ascending-filter xs a.1)

  ascends_rest : (x : X) (l : List X) (b : Bool) → IsAscending T (cond b (x ∷ l) l) → IsAscending T l
  ascends_rest x l true a = a.1
  ascends_rest x l false a = a

-- ---- the sort

module _ {X Y : Type 0} (rank : X → Y) (Q : Y → Y → Ordering) (o : IsTotalOrder Q) (T : X → X → Ordering) where
  abbrev lower : X → X → Bool
  lower x y = is_lt (Q (rank x) (rank y))

  -- by rank, then as before
  abbrev pub ranked_cmp : X → X → Ordering
  ranked_cmp x y = ordering_then (Q (rank x) (rank y)) (T x y)

  -- no element is lower than one before it
  abbrev Rises : List X → Type 0
  Rises ys = (i j : ℕ) (d : X) → i ≤ j → j < length ys → lower (get_or ys j d) (get_or ys i d) ≡ false

  by_tie : (y z : X) (l : List X) (r s : Ordering) → s ≡ ordering_reverse r → is_lt s ≡ false → Below T y (cond (not (is_lt r) && not (is_lt s)) (z ∷ l) l)
      → (ordering_then r (T y z) ≡ Less) × Below T y l
  by_tie y z l Less s e f b = (refl, b)
  by_tie y z l Equal Less e f b = cc
  by_tie y z l Equal Equal e f b = b
  by_tie y z l Equal Greater e f b = cc
  by_tie y z l Greater Less e f b = cc
  by_tie y z l Greater Equal e f b = cc
  by_tie y z l Greater Greater e f b = cc

  below_all : (y : X) (zs : List X) → ((k : ℕ) → k < length zs → lower (get_or zs k y) y ≡ false) → Below T y (filter (ties lower y) zs) → Below ranked_cmp y zs
  below_all y [] f b = tt
  below_all y (z ∷ zs) f b =
      let here = by_tie y z (filter (ties lower y) zs) (Q (rank y) (rank z)) (Q (rank z) (rank y)) (o.antisymm (rank z) (rank y)) (f 0 (omega arith)) b in
      (here.0, below_all y zs (λ k p. f (suc k) (omega arith)) here.1)

  ties-itself : (y : X) → ties lower y y ≡ true
  ties-itself y = rw (tied_itself o (rank y)) refl

  rises-ascend : (ys : List X) → Rises ys → ((x : X) → IsAscending T (filter (ties lower x) ys)) → IsAscending ranked_cmp ys
  rises-ascend [] f a = tt
  rises-ascend (y ∷ ys) f a =
      let own : IsAscending T (y ∷ filter (ties lower y) ys) = subst (λ (b : Bool). IsAscending T (cond b (y ∷ filter (ties lower y) ys) (filter (ties lower y) ys))) (ties-itself y) (a y) in (
        below_all y ys (λ k p. f 0 (suc k) y (omega arith) (omega arith)) own.0,
        rises-ascend ys (λ i j d p q. f (suc i) (suc j) d (omega arith) (omega arith)) (λ x. ascends_rest T (ties lower x) y (filter (ties lower x) ys) (ties lower x y) (a x)),
      )

  -- what a stable sort gives of an ascending list
  pub sorted-ascend : (xs ys : List X) → IsAscending T xs → IsSortedByKey rank Q ys → IsStableByKey rank Q xs ys → IsAscending ranked_cmp ys
  sorted-ascend xs ys a up stable =
      rises-ascend ys (sorted_far lower (ranks_by o rank) ys up) (λ x. subst (IsAscending T) (sym (stable x)) (ascending-filter T (ties lower x) xs a))

module _ {X K Y : Type 0} (rank : X → Y) (key : X → K) (of_key : K → Y) (Q : Y → Y → Ordering) (C : K → K → Ordering) where
  abbrev by_key : X → X → Ordering
  by_key x y = ordering_then (Q (rank x) (rank y)) (C (key x) (key y))

  abbrev of_keys : K → K → Ordering
  of_keys a b = ordering_then (Q (of_key a) (of_key b)) (C a b)

  below-keys : (x : X) (ys : List X) → rank x ≡ of_key (key x) → All (λ y. rank y ≡ of_key (key y)) ys → Below by_key x ys → Below of_keys (key x) (map key ys)
  below-keys x [] e h b = tt
  below-keys x (y ∷ ys) e h b =
      let P : X → Type 0 = λ z. rank z ≡ of_key (key z) in
      (rw (sym e, sym (All-head P y ys h)) b.0, below-keys x ys e (All-tail P y ys h) b.1)

  -- where a key has its rank, the keys ascend too
  pub keys-ascend : (ys : List X) → All (λ y. rank y ≡ of_key (key y)) ys → IsAscending by_key ys → IsAscending of_keys (map key ys)
  keys-ascend [] h a = tt
  keys-ascend (y ∷ ys) h a =
      let P : X → Type 0 = λ z. rank z ≡ of_key (key z) in
      (below-keys y ys (All-head P y ys h) (All-tail P y ys h) a.0, keys-ascend ys (All-tail P y ys h) a.1)
