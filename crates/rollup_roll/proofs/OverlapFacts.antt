-- States of which one is the first whose range shares a number with that of one before it.
use Rattle.std.proofs.Common.{◌≡◌, ◌∙◌, ◌<◌, ◌||◌, ℕ, zero, suc, Bool, false, List, [], ◌∷◌, ◌++◌, length, take, drop, Some, refl, sym, ap, subst, arith, ⊎_elim}
use Rattle.std.specs.List.{AllByRecursion, IsDistinct, list_any, slice_get}
use Rattle.std.proofs.lemmas.Bool.{cases_order, false≢true}
use Rattle.std.proofs.lemmas.List.{take_all, take-take}
use Rattle.pipe_states.specs.States.{StateSeen}
use Rattle.pipe_states.specs.Together.{do_overlap, IsFirstOverlap, NoneOverlap}

-- the first that overlaps is one of them
pub first-within : (states : List StateSeen) (i : ℕ) → IsFirstOverlap states i → i < length states
first-within states i first = within states i first.state first.at where
  within : (ss : List StateSeen) (k : ℕ) (s : StateSeen) → slice_get ss k ≡ Some s → k < length ss
  within [] k s at = cc at
  within (t ∷ ss) zero s at = omega arith
  within (t ∷ ss) (suc k) s at = omega (arith, within ss k s at)

-- of elements of which none is tied to a later one, none before one is tied to it
none-tied : {X : Type 0} (e : X → X → Bool) (before after : List X) (y : X) → IsDistinct e (before ++ y ∷ after) → list_any (λ x. e x y) before ≡ false
unfolding IsDistinct
none-tied e [] after y d = refl
none-tied {X} e (x ∷ before) after y d = λ i. at before d.0 i || none-tied e before after y d.1 i where
  at : (xs : List X) → AllByRecursion (λ z. e x z ≡ false) (xs ++ y ∷ after) → e x y ≡ false
  at [] all = all.0
  at (z ∷ xs) all = at xs all.1

-- a list around the element at a place
around : {X : Type 0} (xs : List X) (i : ℕ) (x : X) → slice_get xs i ≡ Some x → xs ≡ take i xs ++ x ∷ drop (suc i) xs
around [] i x at = cc at
around (y ∷ xs) zero x at =
    let same : y ≡ x = cc at in
    ap (λ z. z ∷ xs) same
around (y ∷ xs) (suc i) x at = ap (λ l. y ∷ l) (around xs i x at)

-- the element at a place is that of the first elements, where the place is below their number
within-front : {X : Type 0} (xs : List X) (n i : ℕ) (x : X) → i < n → slice_get xs i ≡ Some x → slice_get (take n xs) i ≡ Some x
within-front [] n i x lt at = cc at
within-front (y ∷ xs) zero i x lt at = absurd (omega (arith, lt))
within-front (y ∷ xs) (suc n) zero x lt at = at
within-front (y ∷ xs) (suc n) (suc i) x lt at = within-front xs n i x (omega (arith, lt)) at

-- among the first states the first that overlaps isn't, where none of them overlaps
first-behind : (states : List StateSeen) (i n : ℕ) → IsFirstOverlap states i → i < n → NoneOverlap (take n states) → ⊥
first-behind states i n first lt apart =
    let s : StateSeen = first.state in
    let front : take i (take n states) ≡ take i states = take-take i n states (omega (arith, lt)) in
    let split = around (take n states) i s (within-front states n i s lt first.at) in
    let none = none-tied do_overlap (take i (take n states)) (drop (suc i) (take n states)) s (subst NoneOverlap split apart) in
    false≢true (sym none ∙ ap (λ (ts : List StateSeen). list_any (λ t. do_overlap t s) ts) front ∙ first.overlaps)

-- there is none where no two overlap
pub first-of-none : (states : List StateSeen) (i : ℕ) → IsFirstOverlap states i → NoneOverlap states → ⊥
first-of-none states i first apart =
    first-behind states i (length states) first (first-within states i first)
    (subst NoneOverlap (sym (take_all (length states) states (omega arith))) apart)

-- there is one
pub first-once : (states : List StateSeen) (i j : ℕ) → IsFirstOverlap states i → IsFirstOverlap states j → i ≡ j
first-once states i j first other =
    ⊎_elim (λ same. same)
    (λ differ. absurd (⊎_elim (λ lt. first-behind states i j first lt other.before) (λ lt. first-behind states j i other lt first.before) differ))
    (cases_order i j)
