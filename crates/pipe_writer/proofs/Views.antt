-- What passes know once one of them knows more, or another was made.
use Rattle.std.proofs.Common.{◌≡◌, ◌≢◌, ℕ, zero, suc, List, [], ◌∷◌, ◌++◌, ◌⊎◌, inl, inr, ⊎_elim, length, sym, refl, ap, subst, arith}
use Rattle.std.specs.Prelude.{slice_set}
use Rattle.std.specs.List.{AllByRecursion}
use mathlib.Core.Option.{some, some-injective, some-ne-none}
use lib.ListN.{get_elem?}

module _ {X : Type 0} where
  -- what follows for each element follows for all
  pub each_then : (P Q : X → Type 0) → ((x : X) → P x → Q x) → (xs : List X) → AllByRecursion P xs → AllByRecursion Q xs
  each_then P Q f [] all = tt
  each_then P Q f (x ∷ xs) all = (f x all.0, each_then P Q f xs all.1)

  -- what holds of each element of two lists holds of each of both
  pub each_both : (P : X → Type 0) (xs ys : List X) → AllByRecursion P xs → AllByRecursion P ys → AllByRecursion P (xs ++ ys)
  each_both P [] ys a b = b
  each_both P (x ∷ xs) ys a b = (a.0, each_both P xs ys a.1 b)

  at_set : (l : List X) (i j : ℕ) (a b : X) → get_elem? (slice_set l i a) j ≡ some b → ((j ≡ i) × (a ≡ b)) ⊎ ((j ≢ i) × (get_elem? l j ≡ some b))
  at_set [] i j a b e = absurd (some-ne-none b (sym e))
  at_set (x ∷ xs) zero zero a b e = inl (refl, some-injective a b e)
  at_set (x ∷ xs) zero (suc j) a b e = inr ((λ h. omega arith), e)
  at_set (x ∷ xs) (suc i) zero a b e = inr ((λ h. omega arith), e)
  at_set (x ∷ xs) (suc i) (suc j) a b e = ⊎_elim (λ t. inl (ap suc t.0, t.1)) (λ t. let n = t.0 in inr ((λ h. n (omega arith)), t.1)) (at_set xs i j a b e)

  at_snoc : (l : List X) (a b : X) (j : ℕ) → get_elem? (l ++ a ∷ []) j ≡ some b → (get_elem? l j ≡ some b) ⊎ ((j ≡ length l) × (a ≡ b))
  at_snoc [] a b zero e = inr (refl, some-injective a b e)
  at_snoc [] a b (suc j) e = absurd (some-ne-none b (sym e))
  at_snoc (x ∷ xs) a b zero e = inl e
  at_snoc (x ∷ xs) a b (suc j) e = ⊎_elim (λ t. inl t) (λ t. inr (ap suc t.0, t.1)) (at_snoc xs a b j e)

  -- each element has a property of its place
  abbrev pub AtEach : (ℕ → X → Type 0) → List X → Type 0
  AtEach F xs = (place : ℕ) (x : X) → get_elem? xs place ≡ some x → F place x

  -- one element was changed
  pub changed : (F : ℕ → X → Type 0) (xs : List X) (place : ℕ) (x : X) → F place x → ((j : ℕ) (y : X) → j ≢ place → get_elem? xs j ≡ some y → F j y) → AtEach F (slice_set xs place x)
  changed F xs place x mine others j y e =
      ⊎_elim (λ (t : (j ≡ place) × (x ≡ y)). subst (λ (p : ℕ × X). F p.0 p.1) (λ i. (sym t.0 i, t.1 i)) mine)
      (λ (t : (j ≢ place) × (get_elem? xs j ≡ some y)). others j y t.0 t.1) (at_set xs place j x y e)

  -- one element more
  pub one_more : (F : ℕ → X → Type 0) (xs : List X) (x : X) → AtEach F xs → F (length xs) x → AtEach F (xs ++ x ∷ [])
  one_more F xs x all mine j y e =
      ⊎_elim (λ (t : get_elem? xs j ≡ some y). all j y t) (λ (t : (j ≡ length xs) × (x ≡ y)). subst (λ (p : ℕ × X). F p.0 p.1) (λ i. (sym t.0 i, t.1 i)) mine)
      (at_snoc xs x y j e)

  -- what stood at another place before
  pub before : (xs : List X) (place other : ℕ) (x y : X) → ¬ (other ≡ place) → get_elem? (slice_set xs place x) other ≡ some y → get_elem? xs other ≡ some y
  before xs place other x y two e = ⊎_elim (λ t. absurd (two t.0)) (λ t. t.1) (at_set xs place other x y e)

  -- the one element
  pub only : (x y : X) (place : ℕ) → get_elem? (x ∷ []) place ≡ some y → (place ≡ 0) × (x ≡ y)
  only x y zero e = (refl, some-injective x y e)
  only x y (suc place) e = absurd (some-ne-none y (sym e))

  -- what holds of each of two lists holds of each of either
  pub each_apart : (P : X → Type 0) (xs ys : List X) → AllByRecursion P (xs ++ ys) → AllByRecursion P xs × AllByRecursion P ys
  each_apart P [] ys all = (tt, all)
  each_apart P (x ∷ xs) ys all = let rest = each_apart P xs ys all.1 in ((all.0, rest.0), rest.1)
