-- The first state that overlaps an earlier one, and one state more.
use Rattle.std.proofs.Common.{◌≡◌, ◌∙◌, ℕ, zero, suc, ◌<◌, ◌^◌, ◌||◌, ◌&&◌, nat_lt, ltb-true, ltb-false, Bool, true, false, cond, not, Option, Some, None, is_some, List, [], ◌∷◌, ◌++◌, length, take, refl, sym, ap, subst, arith}
use Rattle.std.specs.List.{AllByRecursion, IsDistinct, list_any, slice_get}
use Rattle.std.proofs.lemmas.Bool.{false≢true}
use Rattle.std.proofs.lemmas.List.Folds.{list_any-append}
use Rattle.pipe_states.specs.Ranges.{share_number}
use Rattle.pipe_states.specs.States.{StateSeen}
use Rattle.pipe_states.specs.Together.{do_overlap, IsFirstOverlap, NoneOverlap, total_rows}
use Rattle.pipe_regroup.specs.declared.ranges.Range.{Range}
use Rattle.pipe_regroup.specs.Covered.{HaveNumbers, IsToldBy}
use Rattle.pipe_regroup.specs.Groups.{count_rows}
use Rattle.pipe_regroup.specs.Regrouping.{held_count, with_more}
use Rattle.pipe_regroup.specs.Spread.{HaveNumbersOf, meets}
use Rattle.pipe_regroup.proofs.QueryGroups.{held-more, total-more}

-- ---- lists with one more

module _ {X : Type 0} (e : X → X → Bool) where
  apart-push : (x : X) (xs : List X) (y : X) → AllByRecursion (λ z. e x z ≡ false) xs → e x y ≡ false → AllByRecursion (λ z. e x z ≡ false) (xs ++ y ∷ [])
  apart-push x [] y a h = (h, tt)
  apart-push x (z ∷ xs) y a h = (a.0, apart-push x xs y a.1 h)

  first-false : (a b : Bool) → (a || b) ≡ false → (a ≡ false) × (b ≡ false)
  first-false true b h = cc
  first-false false b h = (refl, h)

  -- elements that are apart, with one that is apart from all
  pub distinct-push : (xs : List X) (y : X) → IsDistinct e xs → list_any (λ x. e x y) xs ≡ false → IsDistinct e (xs ++ y ∷ [])
  unfolding IsDistinct
  distinct-push [] y d h = (tt, tt)
  distinct-push (x ∷ xs) y d h =
      let parts = first-false (e x y) (list_any (λ z. e z y) xs) h in
      (apart-push x xs y d.0 parts.0, distinct-push xs y d.1 parts.1)

  -- one of them is apart from those before it
  apart-at : (x : X) (xs : List X) (i : ℕ) (y : X) → AllByRecursion (λ z. e x z ≡ false) xs → slice_get xs i ≡ Some y → e x y ≡ false
  apart-at x [] i y a at = cc
  apart-at x (z ∷ xs) zero y a at = let same : z ≡ y = cc at in subst (λ (w : X). e x w ≡ false) same a.0
  apart-at x (z ∷ xs) (suc i) y a at = apart-at x xs i y a.1 at

  pub distinct-at : (xs : List X) (i : ℕ) (y : X) → IsDistinct e xs → slice_get xs i ≡ Some y → list_any (λ x. e x y) (take i xs) ≡ false
  unfolding IsDistinct
  distinct-at [] i y d at = cc
  distinct-at (x ∷ xs) zero y d at = refl
  distinct-at (x ∷ xs) (suc i) y d at = (λ j. apart-at x xs i y d.0 at j || list_any (λ z. e z y) (take i xs)) ∙ distinct-at xs i y d.1 at

-- what stands at an index, with one more behind
pub get-push : {X : Type 0} (xs : List X) (i : ℕ) (x y : X) → slice_get xs i ≡ Some x → slice_get (xs ++ y ∷ []) i ≡ Some x
get-push [] i x y at = cc
get-push (z ∷ xs) zero x y at = at
get-push (z ∷ xs) (suc i) x y at = get-push xs i x y at

pub take-push : {X : Type 0} (xs : List X) (i : ℕ) (x y : X) → slice_get xs i ≡ Some x → take i (xs ++ y ∷ []) ≡ take i xs
take-push [] i x y at = cc
take-push (z ∷ xs) zero x y at = refl
take-push (z ∷ xs) (suc i) x y at = ap (λ (l : List _). z ∷ l) (take-push xs i x y at)

-- the one more itself
pub get-last : {X : Type 0} (xs : List X) (y : X) → slice_get (xs ++ y ∷ []) (length xs) ≡ Some y
get-last [] y = refl
get-last (z ∷ xs) y = get-last xs y

pub take-last : {X : Type 0} (xs : List X) (y : X) → take (length xs) (xs ++ y ∷ []) ≡ xs
take-last [] y = refl
take-last (z ∷ xs) y = ap (λ (l : List _). z ∷ l) (take-last xs y)

-- an earlier one stands among those before a later one
get-take : {X : Type 0} (xs : List X) (i j : ℕ) (x : X) → i < j → slice_get xs i ≡ Some x → slice_get (take j xs) i ≡ Some x
get-take [] i j x lt at = cc
get-take (z ∷ xs) i zero x lt at = absurd (omega (arith, lt))
get-take (z ∷ xs) zero (suc j) x lt at = at
get-take (z ∷ xs) (suc i) (suc j) x lt at = get-take xs i j x (omega (arith, lt)) at

take-take : {X : Type 0} (xs : List X) (i j : ℕ) → i < j → take i (take j xs) ≡ take i xs
take-take [] zero zero lt = refl
take-take [] zero (suc j) lt = refl
take-take [] (suc i) zero lt = refl
take-take [] (suc i) (suc j) lt = refl
take-take (z ∷ xs) i zero lt = absurd (omega (arith, lt))
take-take (z ∷ xs) zero (suc j) lt = refl
take-take (z ∷ xs) (suc i) (suc j) lt = ap (λ (l : List _). z ∷ l) (take-take xs i j (omega (arith, lt)))

-- ---- the first that overlaps an earlier one

-- where no ranges share a number there is none
pub none-first : (states : List StateSeen) (i : ℕ) → NoneOverlap states → IsFirstOverlap states i → ⊥
none-first states i none f = false≢true (sym (distinct-at do_overlap states i f.state none f.at) ∙ f.overlaps)

not-later : (states : List StateSeen) (i j : ℕ) → i < j → IsFirstOverlap states i → IsFirstOverlap states j → ⊥
not-later states i j lt f g =
    none-first (take j states) i g.before
    (record {
      state = f.state;
      at = get-take states i j f.state lt f.at;
      before = subst NoneOverlap (sym (take-take states i j lt)) f.before;
      overlaps = ap (list_any (λ s. do_overlap s f.state)) (take-take states i j lt) ∙ f.overlaps;
    })

-- and there is one alone
pub first-sole : (states : List StateSeen) (i j : ℕ) → IsFirstOverlap states i → IsFirstOverlap states j → i ≡ j
first-sole states i j f g = by (nat_lt i j) refl (nat_lt j i) refl where
  by : (b : Bool) → nat_lt i j ≡ b → (d : Bool) → nat_lt j i ≡ d → i ≡ j
  by true e d h = absurd (not-later states i j (ltb-true i j e) f g)
  by false e true h = absurd (not-later states j i (ltb-true j i h) g f)
  by false e false h = let a = ltb-false i j e in let b = ltb-false j i h in omega (arith, a, b)

-- ---- one state more

module _ (states : List StateSeen) (s : StateSeen) where
  -- the first that overlaps stays the first
  pub first-stays : (i : ℕ) → IsFirstOverlap states i → IsFirstOverlap (states ++ s ∷ []) i
  first-stays i f = record {
    state = f.state;
    at = get-push states i f.state s f.at;
    before = subst NoneOverlap (sym (take-push states i f.state s f.at)) f.before;
    overlaps = ap (list_any (λ t. do_overlap t f.state)) (take-push states i f.state s f.at) ∙ f.overlaps;
  }

  module _ (ranges : List Range) (none : NoneOverlap states) (numbers : HaveNumbers states ranges) where
    -- it is the first where it meets a range
    pub first-here : meets ranges s.first s.end ≡ true → IsFirstOverlap (states ++ s ∷ []) (length states)
    first-here m = record {
      state = s;
      at = get-last states s;
      before = subst NoneOverlap (sym (take-last states s)) none;
      overlaps = ap (list_any (λ t. do_overlap t s)) (take-last states s) ∙ numbers s.first s.end ∙ m;
    }

    either : (a b : Bool) → (a || (b || false)) ≡ (b || a)
    either true true = refl
    either true false = refl
    either false true = refl
    either false false = refl

    -- and else none overlaps, and its numbers come to the others
    pub none-here : (new : List Range) → meets ranges s.first s.end ≡ false → HaveNumbersOf ranges s.first s.end new → IsToldBy (states ++ s ∷ []) new None
    none-here new m more = (
      distinct-push do_overlap states s none (numbers s.first s.end ∙ m),
      λ f e.
          list_any-append (λ (t : StateSeen). share_number t.first t.end f e) states (s ∷ [])
          ∙ either (list_any (λ t. share_number t.first t.end f e) states) (share_number s.first s.end f e)
          ∙ ap (λ (b : Bool). share_number s.first s.end f e || b) (numbers f e)
          ∙ sym (more f e),
    )

  -- it is of so many rows more
  pub rows-more : (rows more : Option ℕ) (n : ℕ) → rows ≡ held_count (total_rows states) → n ≡ count_rows s.rows → more ≡ with_more rows n → more ≡ held_count (total_rows (states ++ s ∷ []))
  rows-more rows more n was is e =
      e ∙ (λ i. with_more (was i) (is i)) ∙ held-more (total_rows states) (count_rows s.rows) ∙ ap held_count (sym (total-more states s))

  -- where one was found already
  pub told-on : (ranges : List Range) (o : Option ℕ) → is_some o ≡ true → IsToldBy states ranges o → IsToldBy (states ++ s ∷ []) ranges o
  told-on ranges None some t = cc
  told-on ranges (Some i) some t = first-stays i t

-- where none was found
pub told-none : (states : List StateSeen) (ranges : List Range) (o : Option ℕ) → is_some o ≡ false → IsToldBy states ranges o → NoneOverlap states × HaveNumbers states ranges
told-none states ranges None none t = t
told-none states ranges (Some i) none t = cc

-- and none is found yet
pub told-still : (states : List StateSeen) (ranges : List Range) (o : Option ℕ) → is_some o ≡ false → IsToldBy states ranges None → IsToldBy states ranges o
told-still states ranges None none t = t
told-still states ranges (Some i) none t = cc

-- no states don't overlap
pub none-yet : (ranges : List Range) → ranges ≡ [] → IsToldBy [] ranges None
unfolding IsDistinct
none-yet ranges e = (tt, λ f g. sym (ap (λ (l : List Range). meets l f g) e))

-- a range that isn't free meets one
pub free-not : (free m : Bool) → free ≡ not m → not free ≡ true → m ≡ true
free-not free true e h = refl
free-not free false e h = absurd (false≢true (sym (ap not e) ∙ h))

pub free-so : (free m : Bool) → free ≡ not m → not free ≡ false → m ≡ false
free-so free false e h = refl
free-so free true e h = absurd (false≢true (sym h ∙ ap not e))

-- ---- what forbids

-- it stays forbidden
pub sound-before : (o rows : Option ℕ) (n : ℕ) → (not (is_some o) && is_some (with_more rows n)) ≡ true → (not (is_some o) && is_some rows) ≡ true
sound-before None None n h = h
sound-before None (Some m) n h = refl
sound-before (Some i) rows n h = h

-- a number that is held is small
pub held-few : (n : ℕ) → is_some (held_count n) ≡ true → n < 2 ^ 32
held-few n h = by (nat_lt n (2 ^ 32)) refl h where
  by : (b : Bool) → nat_lt n (2 ^ 32) ≡ b → is_some (cond b (Some n) None) ≡ true → n < 2 ^ 32
  by true e h = ltb-true n (2 ^ 32) e
  by false e h = cc
