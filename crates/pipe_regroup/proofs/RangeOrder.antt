-- Ranges in order: where one more stands, and whether it shares a number with one of them.
use Rattle.std.proofs.Common.{◌≡◌, ◌∙◌, ℕ, zero, suc, ◌<◌, ◌≤◌, ◌||◌, min, max, Bool, true, false, List, [], ◌∷◌, length, get_or, le-ltb, lt-ltb, refl, sym, ap, arith}
use Rattle.std.specs.List.{insert}
use Rattle.std.specs.List.Sorted.{IsNonDecreasingBy}
use Rattle.std.proofs.lemmas.List.Sorted.{IsPermutation-insert, list_any-IsPermutation}
use Rattle.pipe_states.specs.Ranges.{share_number}
use Rattle.pipe_regroup.specs.declared.ranges.Range.{Range}
use Rattle.pipe_regroup.specs.Spread.{AreSpread, HaveNumbersOf, meets}

-- ---- ranges in order

-- ranges that begin later are in order from an earlier number on too
spread-from : (a b : ℕ) (xs : List Range) → a ≤ b → AreSpread b xs → AreSpread a xs
spread-from a b [] le s = tt
spread-from a b (x ∷ xs) le s = (omega (arith, le, s.0), s.1, s.2)

-- each begins at the number or behind it, and ends behind it
spread-at : (n : ℕ) (xs : List Range) (k : ℕ) (d : Range) → AreSpread n xs → k < length xs → (n ≤ (get_or xs k d).first) × ((get_or xs k d).first < (get_or xs k d).end)
spread-at n [] k d s lt = absurd (omega (arith, lt))
spread-at n (x ∷ xs) zero d s lt = (s.0, s.1)
spread-at n (x ∷ xs) (suc k) d s lt =
    let rest = spread-at x.end xs k d s.2 (omega (arith, lt)) in
    (omega (arith, s.0, s.1, rest.0), rest.1)

-- so their ends rise
pub ends-rise : (n : ℕ) (xs : List Range) → AreSpread n xs → IsNonDecreasingBy (λ r. r.end) xs
ends-rise n [] s i j d le lt = absurd (omega (arith, lt))
ends-rise n (x ∷ xs) s zero zero d le lt = omega arith
ends-rise n (x ∷ xs) s zero (suc j) d le lt =
    let there = spread-at x.end xs j d s.2 (omega (arith, lt)) in
    omega (arith, there.0, there.1)
ends-rise n (x ∷ xs) s (suc i) zero d le lt = absurd (omega (arith, le))
ends-rise n (x ∷ xs) s (suc i) (suc j) d le lt = ends-rise x.end xs s.2 i j d (omega (arith, le)) (omega (arith, lt))

-- ---- numbers that are shared

-- a range that ends where another begins, or before, shares no number with it
apart-before : (a b f e : ℕ) → b ≤ f → share_number a b f e ≡ false
apart-before a b f e le = le-ltb (max a f) (min b e) (omega (arith, le))

apart-behind : (a b f e : ℕ) → e ≤ a → share_number a b f e ≡ false
apart-behind a b f e le = le-ltb (max a f) (min b e) (omega (arith, le))

-- nor does a range without a number
none-shared : (a f e : ℕ) → share_number a a f e ≡ false
none-shared a f e = le-ltb (max a f) (min a e) (omega arith)

shares-none : (a b f : ℕ) → share_number a b f f ≡ false
shares-none a b f = le-ltb (max a f) (min b f) (omega arith)

-- so it meets no range
pub meets-none : (xs : List Range) (f : ℕ) → meets xs f f ≡ false
meets-none [] f = refl
meets-none (x ∷ xs) f = (λ i. shares-none x.first x.end f i || meets xs f f) ∙ meets-none xs f

-- and adds no number to ranges
pub numbers-same : (xs : List Range) (f : ℕ) → HaveNumbersOf xs f f xs
numbers-same xs f g e = ap (λ (b : Bool). b || meets xs g e) (sym (none-shared f g e))

-- ranges from the end of another on don't meet it
far : (n : ℕ) (xs : List Range) (f e : ℕ) → e ≤ n → AreSpread n xs → meets xs f e ≡ false
far n [] f e le s = refl
far n (x ∷ xs) f e le s =
    (λ i. apart-behind x.first x.end f e (omega (arith, le, s.0)) i || meets xs f e)
    ∙ far x.end xs f e (omega (arith, le, s.0, s.1)) s.2

-- where the ranges before a place end in front of a range, and the next begins behind it, it meets none
pub meets-no_range : (n : ℕ) (xs : List Range) (i f e : ℕ) → AreSpread n xs → ((k : ℕ) (d : Range) → k < i → k < length xs → (get_or xs k d).end ≤ f)
    → ((d : Range) → i < length xs → e ≤ (get_or xs i d).first) → meets xs f e ≡ false
meets-no_range n [] i f e s before behind = refl
meets-no_range n (x ∷ xs) zero f e s before behind =
    let first : e ≤ x.first = behind x (omega arith) in
    (λ j. apart-behind x.first x.end f e first j || meets xs f e) ∙ far x.end xs f e (omega (arith, first, s.1)) s.2
meets-no_range n (x ∷ xs) (suc i) f e s before behind =
    let ends : x.end ≤ f = before zero x (omega arith) (omega arith) in
    (λ j. apart-before x.first x.end f e ends j || meets xs f e)
    ∙ meets-no_range x.end xs i f e s.2 (λ k d lt there. before (suc k) d (omega (arith, lt)) (omega (arith, there))) (λ d lt. behind d (omega (arith, lt)))

-- it meets one that ends behind its begin, and begins before its end
pub meets-range : (n : ℕ) (xs : List Range) (i f e : ℕ) → AreSpread n xs → i < length xs → ((d : Range) → i < length xs → f < (get_or xs i d).end) → ((d : Range) → (get_or xs i d).first < e) → f < e
    → meets xs f e ≡ true
meets-range n [] i f e s lt behind before some = absurd (omega (arith, lt))
meets-range n (x ∷ xs) zero f e s lt behind before some =
    let ends = behind x lt in
    let begins = before x in
    ap (λ (b : Bool). b || meets xs f e) (lt-ltb (max x.first f) (min x.end e) (omega (arith, s.1, ends, begins, some)))
meets-range n (x ∷ xs) (suc i) f e s lt behind before some =
    by (share_number x.first x.end f e)
    (meets-range x.end xs i f e s.2 (omega (arith, lt)) (λ d there. behind d (omega (arith, there))) before some)
  where
    by : (b : Bool) → meets xs f e ≡ true → (b || meets xs f e) ≡ true
    by true h = refl
    by false h = h

-- ---- one range more

-- it stands in order there
pub spread-insert : (n : ℕ) (xs : List Range) (i : ℕ) (r : Range) → AreSpread n xs → n ≤ r.first → r.first < r.end → i ≤ length xs
    → ((k : ℕ) (d : Range) → k < i → k < length xs → (get_or xs k d).end ≤ r.first) → ((d : Range) → i < length xs → r.end ≤ (get_or xs i d).first) → AreSpread n (insert xs i r)
spread-insert n [] zero r s from some le before behind = (from, some, tt)
spread-insert n [] (suc i) r s from some le before behind = absurd (omega (arith, le))
spread-insert n (x ∷ xs) zero r s from some le before behind = (from, some, (behind x (omega arith), s.1, s.2))
spread-insert n (x ∷ xs) (suc i) r s from some le before behind = (
  s.0,
  s.1,
  spread-insert x.end xs i r s.2 (before zero x (omega arith) (omega arith)) some (omega (arith, le))
      (λ k d lt there. before (suc k) d (omega (arith, lt)) (omega (arith, there))) (λ d lt. behind d (omega (arith, lt))),
)

-- and its numbers are added
pub numbers-insert : (xs : List Range) (i : ℕ) (r : Range) → HaveNumbersOf xs r.first r.end (insert xs i r)
numbers-insert xs i r f e = sym (list_any-IsPermutation (λ (x : Range). share_number x.first x.end f e) (r ∷ xs) (insert xs i r) (IsPermutation-insert xs i r))
