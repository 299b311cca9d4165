-- Lists in which every test counts alike are one list in two orders.
use Rattle.std.proofs.Common.{◌≡◌, ◌∙◌, ℕ, ◌+◌, ◌<◌, Bool, true, false, cond, ◌&&◌, List, [], ◌∷◌, ◌++◌, map, refl, sym, ap, subst, arith}
use Rattle.std.specs.List.{count_by, filter}
use Rattle.std.specs.List.Sorted.{IsPermutation}
use Rattle.std.proofs.lemmas.List.Sorted.{IsPermutation-cons, IsPermutation-middle, IsPermutation-refl, IsPermutation-sym, IsPermutation-trans, sum_by-IsPermutation}
use Rattle.std.proofs.lemmas.List.Sums.{sum_by-append, sum_by-cons}
use Rattle.pipe_model.specs.Counts.{CountAlike}

-- ---- counts of lists that are made of others

-- one more element counts where it passes
pub count-cons : {X : Type 0} (test : X → Bool) (x : X) (xs : List X) → count_by test (x ∷ xs) ≡ cond (test x) 1 0 + count_by test xs
count-cons test x xs = sum_by-cons (λ y. cond (test y) 1 0) x xs

-- two lists joined count as both
pub count-append : {X : Type 0} (test : X → Bool) (xs ys : List X) → count_by test (xs ++ ys) ≡ count_by test xs + count_by test ys
count-append test xs ys = sum_by-append (λ y. cond (test y) 1 0) xs ys

-- a list of images counts as the list by the test of the image
count-map : {X Y : Type 0} (f : X → Y) (test : Y → Bool) (xs : List X) → count_by test (map f xs) ≡ count_by (λ x. test (f x)) xs
count-map f test [] = refl
count-map f test (x ∷ xs) =
    count-cons test (f x) (map f xs)
    ∙ ap (λ (n : ℕ). cond (test (f x)) 1 0 + n) (count-map f test xs)
    ∙ sym (count-cons (λ y. test (f y)) x xs)

-- what a filter keeps counts where it passes both tests
count-filter : {X : Type 0} (keep test : X → Bool) (xs : List X) → count_by test (filter keep xs) ≡ count_by (λ x. keep x && test x) xs
count-filter keep test [] = refl
count-filter keep test (x ∷ xs) = by (keep x) (count-filter keep test xs) ∙ sym (count-cons (λ y. keep y && test y) x xs) where
  by : (b : Bool) → count_by test (filter keep xs) ≡ count_by (λ y. keep y && test y) xs
      → count_by test (cond b (x ∷ filter keep xs) (filter keep xs)) ≡ cond (b && test x) 1 0 + count_by (λ y. keep y && test y) xs
  by true rest = count-cons test x (filter keep xs) ∙ ap (λ (n : ℕ). cond (test x) 1 0 + n) rest
  by false rest = rest ∙ omega arith

-- lists that count alike have images that do
pub map-alike : {X Y : Type 0} (f : X → Y) (xs ys : List X) → CountAlike xs ys → CountAlike (map f xs) (map f ys)
map-alike f xs ys alike = λ test. count-map f test xs ∙ alike (λ x. test (f x)) ∙ sym (count-map f test ys)

-- and so does what a filter keeps of them
pub filter-alike : {X : Type 0} (keep : X → Bool) (xs ys : List X) → CountAlike xs ys → CountAlike (filter keep xs) (filter keep ys)
filter-alike keep xs ys alike = λ test. count-filter keep test xs ∙ alike (λ x. keep x && test x) ∙ sym (count-filter keep test ys)

-- ---- counts and orders

-- one list in two orders counts alike
pub alike-permutation : {X : Type 0} (xs ys : List X) → IsPermutation xs ys → CountAlike xs ys
alike-permutation xs ys moved = λ test. sym (sum_by-IsPermutation (λ x. cond (test x) 1 0) xs ys moved)

module _ {X : Type 0} (same : X → X → Bool) (exact : (x y : X) → same x y ≡ true → x ≡ y) (itself : (x : X) → same x x ≡ true) where
  -- an element parts a list
  record Parted (x : X) (xs : List X) : Type 0 where
    front : List X
    back : List X
    whole : xs ≡ front ++ x ∷ back

  -- what counts parts the list
  parted : (x : X) (ys : List X) → 0 < count_by (same x) ys → Parted x ys
  parted x [] some = absurd (omega arith)
  parted x (y ∷ ys) some = by (same x y) refl (subst (λ (n : ℕ). 0 < n) (count-cons (same x) y ys) some) (parted x ys) where
    by : (b : Bool) → same x y ≡ b → 0 < cond (same x y) 1 0 + count_by (same x) ys → (0 < count_by (same x) ys → Parted x ys) → Parted x (y ∷ ys)
    by true e n next = record { front = []; back = ys; whole = ap (λ (z : X). z ∷ ys) (sym (exact x y e)) }
    by false e n next =
        let later : 0 < cond false 1 0 + count_by (same x) ys = subst (λ (b : Bool). 0 < cond b 1 0 + count_by (same x) ys) e n in
        let rest = next (omega (arith, later)) in
        record { front = y ∷ rest.front; back = rest.back; whole = ap (λ (l : List X). y ∷ l) rest.whole }

  -- what is in a list counts there
  counts_itself : (x : X) (xs : List X) → 0 < count_by (same x) (x ∷ xs)
  counts_itself x xs = subst (λ (n : ℕ). 0 < n) (sym (count-cons (same x) x xs ∙ ap (λ (b : Bool). cond b 1 0 + count_by (same x) xs) (itself x))) (omega arith)

  -- without an element that both have they still count alike
  without : (x : X) (xs front back : List X) → CountAlike (x ∷ xs) (front ++ x ∷ back) → CountAlike xs (front ++ back)
  without x xs front back alike = λ test.
      let left = count-cons test x xs in
      let right = count-cons test x back in
      let all = count-append test front (x ∷ back) in
      let rest = count-append test front back in
      let both = alike test in
      omega arith

  -- what counts as the empty list is empty
  none : (ys : List X) → CountAlike [] ys → [] ≡ ys
  none [] alike = refl
  none (y ∷ ys) alike = let first = count-cons (λ (x : X). true) y ys in let both = alike (λ x. true) in absurd (omega arith)

  -- lists that count alike are one list in two orders
  pub permutation-alike : (xs ys : List X) → CountAlike xs ys → IsPermutation xs ys
  permutation-alike [] ys alike = subst (IsPermutation []) (none ys alike) (IsPermutation-refl [])
  permutation-alike (x ∷ xs) ys alike =
      let part = parted x ys (subst (λ (n : ℕ). 0 < n) (alike (same x)) (counts_itself x xs)) in
      let rest = permutation-alike xs (part.front ++ part.back) (without x xs part.front part.back (subst (CountAlike (x ∷ xs)) part.whole alike)) in
      subst (IsPermutation (x ∷ xs)) (sym part.whole)
      (IsPermutation-trans (x ∷ xs) (x ∷ (part.front ++ part.back)) (part.front ++ x ∷ part.back) (IsPermutation-cons x xs (part.front ++ part.back) rest)
      (IsPermutation-sym (part.front ++ x ∷ part.back) (x ∷ (part.front ++ part.back)) (IsPermutation-middle part.front x part.back)))
