-- Sums over the numbers below a bound.
use Rattle.std.proofs.Common.{◌≡◌, ◌≢◌, ℕ, zero, suc, ◌+◌, ◌<◌, ◌≤◌, ◌==◌, Bool, true, false, List, [], ◌∷◌, refl, ap, sym, ◌∙◌, subst, arith, below_more}
use Rattle.std.specs.List.{count_by, flat_map, range_with_len, sum_by}
use Rattle.std.proofs.lemmas.Bool.Decides.{nat_tests}
use Rattle.std.proofs.lemmas.List.Sums.{sum_by-append, sum_by-cons}
use Rattle.pipe_model.proofs.CountFacts.{count-append}
use Rattle.pipe_plan.proofs.ChunkRows.{range-append}

-- f 0 + .. + f (n - 1)
abbrev pub sum_to : ℕ → (ℕ → ℕ) → ℕ
sum_to zero f = 0
sum_to (suc n) f = sum_to n f + f n

-- it is the sum over a range
pub sum_to-range : (n : ℕ) (f : ℕ → ℕ) → sum_by f (range_with_len 0 n) ≡ sum_to n f
sum_to-range zero f = refl
sum_to-range (suc n) f =
    ap (λ k. sum_by f (range_with_len 0 k)) {x = suc n} {y = n + 1} (omega arith)
    ∙ ap (λ (l : List ℕ). sum_by f l) (range-append 0 n 1)
    ∙ sum_by-append f (range_with_len 0 n) (range_with_len (0 + n) 1)
    ∙ ap (λ k. sum_by f (range_with_len 0 n) + k) (sum_by-cons f (0 + n) [] ∙ omega arith ∙ ap f {x = 0 + n} {y = n} (omega arith))
    ∙ ap (λ k. k + f n) (sum_to-range n f)

-- lists joined count as all of them
pub count-joined : {A B : Type 0} (test : B → Bool) (f : A → List B) (xs : List A) → count_by test (flat_map f xs) ≡ sum_by (λ x. count_by test (f x)) xs
count-joined test f [] = refl
count-joined test f (x ∷ xs) = count-append test (f x) (flat_map f xs) ∙ ap (λ k. count_by test (f x) + k) (count-joined test f xs) ∙ sym (sum_by-cons (λ x. count_by test (f x)) x xs)

-- and over a range, as their sum
pub count-over : {B : Type 0} (test : B → Bool) (f : ℕ → List B) (n : ℕ) → count_by test (flat_map f (range_with_len 0 n)) ≡ sum_to n (λ k. count_by test (f k))
count-over test f n = count-joined test f (range_with_len 0 n) ∙ sum_to-range n (λ k. count_by test (f k))

-- equal terms have equal sums
pub sum_to-same : (n : ℕ) (f g : ℕ → ℕ) → ((k : ℕ) → k < n → f k ≡ g k) → sum_to n f ≡ sum_to n g
sum_to-same zero f g same = refl
sum_to-same (suc n) f g same = omega (arith, sum_to-same n f g (λ k lt. same k (omega arith)), same n (omega arith))

-- terms that are no greater have no greater sum
pub sum_to-le : (n : ℕ) (f g : ℕ → ℕ) → ((k : ℕ) → k < n → f k ≤ g k) → sum_to n f ≤ sum_to n g
sum_to-le zero f g le = omega arith
sum_to-le (suc n) f g le = omega (arith, sum_to-le n f g (λ k lt. le k (omega arith)), le n (omega arith))

-- sums of terms that are added
pub sum_to-both : (n : ℕ) (f g : ℕ → ℕ) → sum_to n (λ k. f k + g k) ≡ sum_to n f + sum_to n g
sum_to-both zero f g = refl
sum_to-both (suc n) f g = omega (arith, sum_to-both n f g)

-- a sum of nothing
pub sum_to-zero : (n : ℕ) → sum_to n (λ k. 0) ≡ 0
sum_to-zero zero = refl
sum_to-zero (suc n) = omega (arith, sum_to-zero n)

-- sums of sums in either order
pub sum_to-swap : (n m : ℕ) (f : ℕ → ℕ → ℕ) → sum_to n (λ i. sum_to m (λ j. f i j)) ≡ sum_to m (λ j. sum_to n (λ i. f i j))
sum_to-swap zero m f = sym (sum_to-zero m)
sum_to-swap (suc n) m f = omega (arith, sum_to-swap n m f, sum_to-both m (λ j. sum_to n (λ i. f i j)) (λ j. f n j))

-- a sum of which one term gains
pub sum_to-one : (n : ℕ) (f g : ℕ → ℕ) (v gain : ℕ) → v < n → f v ≡ g v + gain → ((k : ℕ) → k ≢ v → f k ≡ g k) → sum_to n f ≡ sum_to n g + gain
sum_to-one zero f g v gain lt own other = absurd (omega arith)
sum_to-one (suc n) f g v gain lt own other =
    elim (v == n) as (λ (c : Bool). (v == n) ≡ c → sum_to n f + f n ≡ sum_to n g + g n + gain) [
      | true ↦ λ at.
          let here : v ≡ n = grind (arith, nat_tests) in
          let gains : f n ≡ g n + gain = subst (λ (k : ℕ). f k ≡ g k + gain) here own in
          omega (arith, sum_to-same n f g (λ k lt. other k (omega (arith, here))), gains)
      | false ↦ λ at.
          let apart : n ≢ v = grind (arith, nat_tests) in
          omega (arith, sum_to-one n f g v gain (omega arith) own other, other n apart)
    ] refl

-- terms of which none is above its counterpart are equal where their sums are
pub sum_to-tight : (n : ℕ) (f g : ℕ → ℕ) → ((k : ℕ) → k < n → f k ≤ g k) → sum_to n g ≤ sum_to n f → (k : ℕ) → k < n → f k ≡ g k
sum_to-tight zero f g le sums k lt = absurd (omega arith)
sum_to-tight (suc n) f g le sums k lt =
    let low = sum_to-le n f g (λ k lt. le k (omega arith)) in
    let last = le n (omega arith) in
    let before = sum_to-tight n f g (λ k lt. le k (omega arith)) (omega (arith, low, last)) in
    below_more (λ (k : ℕ). f k ≡ g k) n before (omega (arith, low, last)) k (omega arith)
