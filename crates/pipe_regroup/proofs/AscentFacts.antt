-- What was sorted, and whose keys are apart, ascends strictly by key.
use Rattle.std.proofs.Common.{◌≡◌, ℕ, suc, ◌<◌, ◌≤◌, Bool, true, false, List, [], ◌∷◌, length, map, get_or, refl, subst, arith}
use Rattle.std.specs.List.{All, AllByRecursion, IsDistinct}
use Rattle.std.specs.List.Sorted.{IsSorted}
use Rattle.std.specs.declared.cmp.Ordering.{Ordering}
use Rattle.std.specs.declared.cmp.Ordering.TheVariants.{Less, Equal, Greater}
use Rattle.std.specs.Ordering.{is_lt, ordering_reverse, ordering_then}
use Rattle.std.specs.Cmp.{IsTotalOrder}
use Rattle.std.proofs.lemmas.List.Elements.{All-head, All-tail}
use Rattle.std.proofs.lemmas.Map.Keys.{IsDistinct-head, IsDistinct-tail}
use Rattle.std.proofs.lemmas.List.Sorted.{ranks_by, sorted_far}
use Rattle.pipe_columns.specs.Groups.{IsAscending}
use Rattle.pipe_columns.proofs.AscendingFacts.{Below}

-- of two that aren't out of order the first comes before the second, unless they tie
in_turn : (r s t : Ordering) → s ≡ ordering_reverse r → is_lt (ordering_then s t) ≡ false → (r ≡ Equal → ⊥) → r ≡ Less
in_turn Less s t e f n = refl
in_turn Equal s t e f n = absurd (n refl)
in_turn Greater Less t e f n = cc
in_turn Greater Equal t e f n = cc
in_turn Greater Greater t e f n = cc

-- elements have keys in an order, and are sorted by another one which leads with that of their keys
module _ {X K : Type 0} (key : X → K) (order : K → K → Ordering) (o : IsTotalOrder order)
    (same : K → K → Bool) (ties : (a b : K) → order a b ≡ Equal → same a b ≡ true)
    (cmp : X → X → Ordering) (c : IsTotalOrder cmp) (then : X → X → Ordering)
    (P : X → Type 0) (leads : (x y : X) → P x → P y → cmp x y ≡ ordering_then (order (key x) (key y)) (then x y)) where
  -- no element is lower than one before it
  abbrev Rises : List X → Type 0
  Rises xs = (i j : ℕ) (d : X) → i ≤ j → j < length xs → is_lt (cmp (get_or xs j d) (get_or xs i d)) ≡ false

  below-rest : (x : X) (ys : List X) → P x → All P ys → ((k : ℕ) → k < length ys → is_lt (cmp (get_or ys k x) x) ≡ false)
      → AllByRecursion (λ k. same (key x) k ≡ false) (map key ys) → Below order (key x) (map key ys)
  below-rest x [] p q f a = tt
  below-rest x (y ∷ ys) p q f a =
      let late : is_lt (ordering_then (order (key y) (key x)) (then y x)) ≡ false =
      subst (λ (r : Ordering). is_lt r ≡ false) (leads y x (All-head P y ys q) p) (f 0 (omega arith)) in
      let apart : order (key x) (key y) ≡ Equal → ⊥ = λ e. absurd (cc (ties (key x) (key y) e, a.0)) in (
        in_turn (order (key x) (key y)) (order (key y) (key x)) (then y x) (o.antisymm (key y) (key x)) late apart,
        below-rest x ys p (All-tail P y ys q) (λ k lt. f (suc k) (omega (arith, lt))) a.1,
      )

  rising-ascend : (xs : List X) → All P xs → Rises xs → IsDistinct same (map key xs) → IsAscending order (map key xs)
  rising-ascend [] p f a = tt
  rising-ascend (x ∷ xs) p f a = (
    below-rest x xs (All-head P x xs p) (All-tail P x xs p) (λ k lt. f 0 (suc k) x (omega arith) (omega (arith, lt))) (IsDistinct-head same (key x) (map key xs) a),
    rising-ascend xs (All-tail P x xs p) (λ i j d le lt. f (suc i) (suc j) d (omega (arith, le)) (omega (arith, lt))) (IsDistinct-tail same (key x) (map key xs) a),
  )

  -- sorted elements whose keys are apart have ascending keys
  pub sorted-ascend : (xs : List X) → All P xs → IsSorted cmp xs → IsDistinct same (map key xs) → IsAscending order (map key xs)
  sorted-ascend xs p s a =
      rising-ascend xs p (sorted_far (λ x y. is_lt (cmp x y)) (ranks_by c (λ (x : X). x)) xs s) a
