-- The elements of lists of keys.
use Rattle.std.proofs.Common.{◌≡◌, ◌⊎◌, ◌<◌, inl, inr, ℕ, zero, suc, List, [], ◌∷◌, length, get_or, refl, sym, subst, arith}
use Rattle.std.specs.List.{All, Contains}
use Rattle.std.specs.List.Sorted.{IsPermutation}
use Rattle.std.proofs.lemmas.List.Elements.{All-cons, All-head, All-nil, All-tail, All-weaker}
use Rattle.std.proofs.lemmas.List.Sorted.{All-permutation, IsPermutation-sym}
use Rattle.pipe_columns.specs.Groups.{HaveSameElements}

module _ {K : Type 0} where
  -- k is one of the keys
  abbrev pub Has : K → List K → Type 0
  Has k [] = ⊥
  Has k (x ∷ xs) = (k ≡ x) ⊎ Has k xs

  -- each key is one of them
  pub all_has : (xs : List K) → All (λ x. Has x xs) xs
  all_has [] = All-nil (λ (x : K). Has x [])
  all_has (x ∷ xs) = All-cons (λ (y : K). Has y (x ∷ xs)) x xs (inl refl) (All-weaker (λ (y : K). Has y xs) (λ (y : K). Has y (x ∷ xs)) (λ y h. inr h) xs (all_has xs))

  -- what holds of all holds of one of them
  pub all_at : (P : K → Type 0) (xs : List K) (k : K) → All P xs → Has k xs → P k
  all_at P [] k h m = absurd m
  all_at P (x ∷ xs) k h (inl e) = subst P (sym e) (All-head P x xs h)
  all_at P (x ∷ xs) k h (inr m) = all_at P xs k (All-tail P x xs h) m

  -- what moves stays
  pub moved-has : (xs ys : List K) → IsPermutation xs ys → (k : K) → Has k xs → Has k ys
  moved-has xs ys p k m = let P : K → Type 0 = λ x. Has x ys in all_at P xs k (All-permutation P ys xs (IsPermutation-sym xs ys p) (all_has ys)) m

  -- what stands at a place is one of the keys
  has-at : (xs : List K) (k : K) (i : ℕ) → i < length xs → get_or xs i k ≡ k → Has k xs
  has-at [] k i lt e = absurd (omega arith)
  has-at (x ∷ xs) k zero lt e = inl (sym e)
  has-at (x ∷ xs) k (suc i) lt e = inr (has-at xs k i (omega (arith, lt)) e)

  -- the two words for an element say the same
  pub has-from_Contains : (xs : List K) (k : K) → Contains xs k → Has k xs
  has-from_Contains xs k c = has-at xs k c.0 c.1 c.2

  pub Contains-from_has : (xs : List K) (k : K) → Has k xs → Contains xs k
  Contains-from_has [] k m = absurd m
  Contains-from_has (x ∷ xs) k (inl e) = (0, omega arith, sym e)
  Contains-from_has (x ∷ xs) k (inr m) =
      let c = Contains-from_has xs k m in
      let lt = c.1 in
      (suc c.0, omega (arith, lt), c.2)

  -- lists of the same elements
  pub same_elements : (xs ys : List K) → ((k : K) → Has k xs → Has k ys) → ((k : K) → Has k ys → Has k xs) → HaveSameElements xs ys
  same_elements xs ys f g k = (
    λ c. Contains-from_has ys k (f k (has-from_Contains xs k c)),
    λ c. Contains-from_has xs k (g k (has-from_Contains ys k c)),
  )

  -- an element of one list is one of the other
  pub same-has : (xs ys : List K) → HaveSameElements xs ys → (k : K) → Has k xs → Has k ys
  same-has xs ys e k m = has-from_Contains ys k ((e k).0 (Contains-from_has xs k m))

  pub has-same : (xs ys : List K) → HaveSameElements xs ys → (k : K) → Has k ys → Has k xs
  has-same xs ys e k m = has-from_Contains xs k ((e k).1 (Contains-from_has ys k m))
