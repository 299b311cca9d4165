-- Lists in order: each element once, ascending, and the same wherever the elements stood.
use Rattle.std.proofs.Common.{◌≡◌, ◌∙◌, ◌∷◌, [], Bool, true, false, cond, List, is_lt, refl, ap, inl, inr}
use Rattle.std.specs.List.{AllByRecursion, IsDistinct}
use Rattle.std.specs.List.Sorted.{IsPermutation}
use Rattle.std.specs.Cmp.{IsTotalOrder, tied_back}
use Rattle.std.specs.declared.cmp.Ordering.{Ordering}
use Rattle.std.specs.declared.cmp.Ordering.TheVariants.{Less, Equal, Greater}
use Rattle.std.specs.Ordering.{eq_by_cmp, is_eq, ordering_reverse}
use Rattle.std.proofs.lemmas.Bool.{cases_Bool, cond-true, cond-false}
use Rattle.std.proofs.lemmas.List.Sorted.{IsPermutation-cons, IsPermutation-middle, IsPermutation-refl, IsPermutation-sym, IsPermutation-trans}
use Rattle.pipe_columns.specs.Groups.{IsAscending}
use Rattle.pipe_columns.proofs.AscendingFacts.{AnyKey, any_keys, ascending_unique_on, below_trans, total_on}
use Rattle.pipe_columns.proofs.ElementFacts.{moved-has}
use Rattle.lavzimo_rows.specs.StableOrder.{in_order, put_in}

module _ {X : Type 0} (order : X → X → Ordering) where
  -- an element that is put in is there once
  put-moved : (x : X) (ys : List X) → IsPermutation (x ∷ ys) (put_in order x ys)
  put-moved x [] = IsPermutation-refl (x ∷ [])
  put-moved x (y ∷ ys) = put_at (is_lt (order y x)) (put-moved x ys) where
    put_at : (less : Bool) → IsPermutation (x ∷ ys) (put_in order x ys) → IsPermutation (x ∷ y ∷ ys) (cond less (y ∷ put_in order x ys) (x ∷ y ∷ ys))
    put_at true rest = IsPermutation-trans (x ∷ y ∷ ys) (y ∷ x ∷ ys) (y ∷ put_in order x ys) (IsPermutation-middle (x ∷ []) y ys) (IsPermutation-cons y (x ∷ ys) (put_in order x ys) rest)
    put_at false rest = IsPermutation-refl (x ∷ y ∷ ys)

  -- so each element is there once
  pub in_order-moved : (xs : List X) → IsPermutation xs (in_order order xs)
  in_order-moved [] = IsPermutation-refl []
  in_order-moved (x ∷ xs) = IsPermutation-trans (x ∷ xs) (x ∷ in_order order xs) (put_in order x (in_order order xs)) (IsPermutation-cons x xs (in_order order xs) (in_order-moved xs)) (put-moved x (in_order order xs))

  module _ (P : X → Type 0) where
    -- what holds of elements and of one more holds of all
    put-all : (x : X) (ys : List X) → P x → AllByRecursion P ys → AllByRecursion P (put_in order x ys)
    put-all x [] p h = (p, tt)
    put-all x (y ∷ ys) p h = put_at (is_lt (order y x)) (put-all x ys p h.1) where
      put_at : (less : Bool) → AllByRecursion P (put_in order x ys) → AllByRecursion P (cond less (y ∷ put_in order x ys) (x ∷ y ∷ ys))
      put_at true rest = (h.0, rest)
      put_at false rest = (p, h)

    -- and of them in order
    in_order-all : (xs : List X) → AllByRecursion P xs → AllByRecursion P (in_order order xs)
    in_order-all [] h = tt
    in_order-all (x ∷ xs) h = put-all x (in_order order xs) h.0 (in_order-all xs h.1)

module _ {X : Type 0} (order : X → X → Ordering) (o : IsTotalOrder order) where
  -- what isn't less, and doesn't tie, is greater
  greater : (x y : X) (r : Ordering) → order y x ≡ r → is_lt r ≡ false → eq_by_cmp order x y ≡ false → order x y ≡ Less
  greater x y Less e not_less apart = cc
  greater x y Equal e not_less apart =
      let same : order x y ≡ Equal = tied_back o y x e in
      let yes : eq_by_cmp order x y ≡ true = ap is_eq same in cc
  greater x y Greater e not_less apart = o.antisymm x y ∙ ap ordering_reverse e

  less : (r : Ordering) → is_lt r ≡ true → r ≡ Less
  less Less e = refl
  less Equal e = cc
  less Greater e = cc

  -- an element that ties with none leaves them ascending
  put-ascending : (x : X) (ys : List X) → AllByRecursion (λ y. eq_by_cmp order x y ≡ false) ys → IsAscending order ys → IsAscending order (put_in order x ys)
  put-ascending x [] apart up = (tt, tt)
  put-ascending x (y ∷ ys) apart up =
      elim (cases_Bool (is_lt (order y x))) [
        | inl before ↦
            rw (cond-true (is_lt (order y x)) (y ∷ put_in order x ys) (x ∷ y ∷ ys) before)
            (put-all order (λ z. order y z ≡ Less) x ys (less (order y x) before) up.0, put-ascending x ys apart.1 up.1)
        | inr behind ↦
            let below : order x y ≡ Less = greater x y (order y x) refl behind apart.0 in
            rw (cond-false (is_lt (order y x)) (y ∷ put_in order x ys) (x ∷ y ∷ ys) behind)
            ((below, below_trans order o x y ys below up.0), up)
      ]

  -- elements of which no two tie ascend
  pub in_order-ascending : (xs : List X) → IsDistinct (eq_by_cmp order) xs → IsAscending order (in_order order xs)
  unfolding IsDistinct
  in_order-ascending [] apart = tt
  in_order-ascending (x ∷ xs) apart =
      put-ascending x (in_order order xs) (in_order-all order (λ y. eq_by_cmp order x y ≡ false) xs apart.0) (in_order-ascending xs apart.1)

  -- two lists that ascend and are the same but for their order are the same
  pub ascending_moved : (xs ys : List X) → IsAscending order xs → IsAscending order ys → IsPermutation xs ys → xs ≡ ys
  ascending_moved xs ys up down moved =
      ascending_unique_on AnyKey order (total_on order o) xs ys (any_keys xs) (any_keys ys) up down
      (moved-has xs ys moved) (moved-has ys xs (IsPermutation-sym xs ys moved))
