-- The elements of joined lists, and when they ascend.
use Rattle.std.proofs.Common.{List, [], ◌∷◌, ◌++◌, ◌⊎◌, inl, inr, refl}
use Rattle.std.specs.declared.cmp.Ordering.{Ordering}
use Rattle.pipe_columns.specs.Groups.{IsAscending}
use Rattle.pipe_columns.proofs.AscendingFacts.{Below}
use Rattle.pipe_columns.proofs.ElementFacts.{Has}

module _ {K : Type 0} where
  -- what is in the first of two lists is in both joined
  pub has-first : (k : K) (xs ys : List K) → Has k xs → Has k (xs ++ ys)
  has-first k [] ys m = absurd m
  has-first k (x ∷ xs) ys (inl e) = inl e
  has-first k (x ∷ xs) ys (inr m) = inr (has-first k xs ys m)

  -- and so is what is in the second
  pub has-second : (k : K) (xs ys : List K) → Has k ys → Has k (xs ++ ys)
  has-second k [] ys m = m
  has-second k (x ∷ xs) ys m = inr (has-second k xs ys m)

  -- what is in both joined is in one of them
  pub has-either : (k : K) (xs ys : List K) → Has k (xs ++ ys) → Has k xs ⊎ Has k ys
  has-either k [] ys m = inr m
  has-either k (x ∷ xs) ys (inl e) = inl (inl e)
  has-either k (x ∷ xs) ys (inr m) = by (has-either k xs ys m) where
    by : Has k xs ⊎ Has k ys → Has k (x ∷ xs) ⊎ Has k ys
    by (inl n) = inl (inr n)
    by (inr n) = inr n

  -- ascending lists, of which each key of the first is below the second, ascend together
  pub ascending-append : (R : K → K → Ordering) (xs ys : List K) → IsAscending R xs → IsAscending R ys → ((k : K) → Has k xs → Below R k ys) → IsAscending R (xs ++ ys)
  ascending-append R [] ys a b below = b
  ascending-append R (x ∷ xs) ys a b below = (below-append xs a.0, ascending-append R xs ys a.1 b (λ k m. below k (inr m))) where
    below-append : (zs : List K) → Below R x zs → Below R x (zs ++ ys)
    below-append [] h = below x (inl refl)
    below-append (z ∷ zs) h = (h.0, below-append zs h.1)
