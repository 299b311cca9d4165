-- Rows of short numbers by bits.
use Rattle.std.proofs.Common.{pow-add, add-zero, ◌⊎◌, inl, inr, ◌≡◌, ◌≢◌, ◌∙◌, ◌≤◌, ◌<◌, ◌+◌, ◌-◌, ◌*◌, ◌/◌, ◌%◌, ◌^◌, ℕ, min, max, refl, sym, ap, arith}
use lib.Count.{count_trailing_zeros}
use Rattle.std.specs.Int.{bit_at, bit_not}
use Rattle.std.specs.Int.RustNames.{bit_or}
use lib.Bits.{bit_and}
use mir.Syntax.{w64}
use Rattle.std.proofs.Math.Nat.{div-add-mod, div-div-eq-div-mul, mod-lt, mul_comm}
use Rattle.std.proofs.Math.Pow.{pow-lt}
use Rattle.std.proofs.lemmas.Nat.{pow_pos}
use Rattle.std.proofs.lemmas.Bool.{cases_eq, cases_lt}
use Rattle.std.proofs.lemmas.Nat.Bits.{bit_at-lt, bit_at-pow_other, bit_at-pow_same, bit_at-trailing_zeros, bit_at-zero, bit_at_and, bit_at_cat_high, bit_at_cat_low, bit_at_not, bit_at_ones, bit_at_ones_above, bit_at_or, same_from_bits_below}
use Rattle.pipe_scan.specs.NumberBlock.{AreBelowGap, AreLegalEnds, AreSet, HasNoLongRun, IsGood}

-- a bit behind the first k
pub bit_shr : (n k i : ℕ) → bit_at (n / 2 ^ k) i ≡ bit_at n (k + i)
bit_shr n k i = ap (λ (m : ℕ). m % 2) (div-div-eq-div-mul n (2 ^ k) (2 ^ i) ∙ ap (λ (m : ℕ). n / m) (sym (pow-add 2 k i)))

-- both bits
pub and_one : (a b i : ℕ) → bit_at a i ≡ 1 → bit_at b i ≡ 1 → bit_at (bit_and a b) i ≡ 1
and_one a b i h k = bit_at_and a b i ∙ omega (arith, h, k)

pub both : (a b i : ℕ) → bit_at (bit_and a b) i ≡ 1 → (bit_at a i ≡ 1) × (bit_at b i ≡ 1)
both a b i h =
    let e : min (bit_at a i) (bit_at b i) ≡ 1 = sym (bit_at_and a b i) ∙ h in
    let l = bit_at-lt a i in
    let m = bit_at-lt b i in
    (omega (arith, e, l, m), omega (arith, e, l, m))

-- a run of n set bits from i on sets the bit i
abbrev Runs : ℕ → ℕ → ℕ → Type 0
Runs digits a n = (i : ℕ) → AreSet digits i n → bit_at a i ≡ 1

-- a longer one by two of them
runs-more : (digits a b n m k : ℕ) → Runs digits a n → Runs digits b m → n ≤ k + m → Runs digits (bit_and a (b / 2 ^ k)) (k + m)
runs-more digits a b n m k r s l i h =
    and_one a (b / 2 ^ k) i (r i (λ j x y. h j x (omega (arith, y, l))))
    (bit_shr b k i ∙ s (k + i) (λ j x y. h j (omega (arith, x)) (omega (arith, y))))

-- no bit is set of none
pub no_long : (digits : ℕ) → let two = bit_and digits (digits / 2 ^ 1) in let four = bit_and two (two / 2 ^ 2) in let eight = bit_and four (four / 2 ^ 4) in let sixteen = bit_and eight (eight / 2 ^ 8) in
    bit_and sixteen (four / 2 ^ 15) ≡ 0 → HasNoLongRun digits
no_long digits e i l h =
    let two : ℕ = bit_and digits (digits / 2 ^ 1) in
    let four : ℕ = bit_and two (two / 2 ^ 2) in
    let eight : ℕ = bit_and four (four / 2 ^ 4) in
    let sixteen : ℕ = bit_and eight (eight / 2 ^ 8) in
    let r1 : Runs digits digits 1 = λ j k. k j (omega arith) (omega arith) in
    let r2 : Runs digits two 2 = runs-more digits digits digits 1 1 1 r1 r1 (omega arith) in
    let r4 : Runs digits four 4 = runs-more digits two two 2 2 2 r2 r2 (omega arith) in
    let r8 : Runs digits eight 8 = runs-more digits four four 4 4 4 r4 r4 (omega arith) in
    let r16 : Runs digits sixteen 16 = runs-more digits eight eight 8 8 8 r8 r8 (omega arith) in
    let r19 : Runs digits (bit_and sixteen (four / 2 ^ 15)) 19 = runs-more digits sixteen four 16 4 15 r16 r4 (omega arith) in
    let one : bit_at (bit_and sixteen (four / 2 ^ 15)) i ≡ 1 = r19 i h in
    let none : bit_at (bit_and sixteen (four / 2 ^ 15)) i ≡ 0 = ap (λ (n : ℕ). bit_at n i) e ∙ bit_at-zero i in
    omega (arith, one, none)

-- the bits of a rest by a power of two
bit_mod : (n k i : ℕ) → i < k → bit_at (n % 2 ^ k) i ≡ bit_at n i
bit_mod n k i l =
    let e : n / 2 ^ k * 2 ^ k + n % 2 ^ k ≡ n = rw (mul_comm (n / 2 ^ k) (2 ^ k)) (div-add-mod n (2 ^ k)) in
    sym (bit_at_cat_low (n / 2 ^ k) k (n % 2 ^ k) i l) ∙ ap (λ (m : ℕ). bit_at m i) e

-- the lowest set bit of a number
pub record IsLowest (n t : ℕ) : Type 0 where
  pub set : bit_at n t ≡ 1
  pub below : (i : ℕ) → i < t → bit_at n i ≡ 0

-- up to there it is all of the number
same_by : (n t i : ℕ) → IsLowest n t → i < t + 1 → (i ≡ t) ⊎ (i ≢ t) → bit_at (n % 2 ^ (t + 1)) i ≡ bit_at (2 ^ t) i
same_by n t i z l (inl e) = bit_mod n (t + 1) i l ∙ ap (λ (j : ℕ). bit_at n j) e ∙ z.set ∙ sym (bit_at-pow_same t) ∙ ap (λ (j : ℕ). bit_at (2 ^ t) j) (sym e)
same_by n t i z l (inr d) = bit_mod n (t + 1) i l ∙ z.below i (omega (arith, l, d)) ∙ sym (bit_at-pow_other t i d)

pub lowest-is : (n t : ℕ) → IsLowest n t → n ≡ n / 2 ^ (t + 1) * 2 ^ (t + 1) + 2 ^ t
lowest-is n t z =
    let m : n % 2 ^ (t + 1) ≡ 2 ^ t = same_from_bits_below (t + 1) (n % 2 ^ (t + 1)) (2 ^ t) (mod-lt n (pow_pos (t + 1))) (pow-lt {i = t} {j = t + 1} (omega arith)) (λ i l. same_by n t i z l (cases_eq i t)) in
    sym (div-add-mod n (2 ^ (t + 1))) ∙ rw (m, mul_comm (2 ^ (t + 1)) (n / 2 ^ (t + 1))) refl

-- one less has all bits below it, and not it
less_one : (n t : ℕ) → IsLowest n t → n - 1 ≡ n / 2 ^ (t + 1) * 2 ^ (t + 1) + (2 ^ t - 1)
less_one n t z =
    let e = lowest-is n t z in
    let p : 0 < 2 ^ t = pow_pos t in
    omega (arith, e, p)

pub less-below : (n t i : ℕ) → IsLowest n t → i < t → bit_at (n - 1) i ≡ 1
less-below n t i z l = ap (λ (m : ℕ). bit_at m i) (less_one n t z) ∙ bit_at_cat_low (n / 2 ^ (t + 1)) (t + 1) (2 ^ t - 1) i (omega (arith, l)) ∙ bit_at_ones t i l

pub less-at : (n t : ℕ) → IsLowest n t → bit_at (n - 1) t ≡ 0
less-at n t z = ap (λ (m : ℕ). bit_at m t) (less_one n t z) ∙ bit_at_cat_low (n / 2 ^ (t + 1)) (t + 1) (2 ^ t - 1) t (omega arith) ∙ bit_at_ones_above t t (omega arith)

pub less-above : (n t i : ℕ) → IsLowest n t → t < i → bit_at (n - 1) i ≡ bit_at n i
less-above n t i z l =
    let p : 2 ^ t < 2 ^ (t + 1) = pow-lt (omega arith) in
    ap (λ (m : ℕ). bit_at m i) (less_one n t z) ∙ bit_at_cat_high (n / 2 ^ (t + 1)) (t + 1) (2 ^ t - 1) i (omega (arith, p)) (omega (arith, l))
    ∙ sym (bit_at_cat_high (n / 2 ^ (t + 1)) (t + 1) (2 ^ t) i p (omega (arith, l))) ∙ ap (λ (m : ℕ). bit_at m i) (sym (lowest-is n t z))

-- a number without its lowest set bit
pub clear-same : (n t : ℕ) → IsLowest n t → bit_at (bit_and n (n - 1)) t ≡ 0
clear-same n t z = bit_at_and n (n - 1) t ∙ omega (arith, less-at n t z)

clear_by : (n t i : ℕ) → IsLowest n t → (i < t) ⊎ (t ≤ i) → i ≢ t → bit_at (bit_and n (n - 1)) i ≡ bit_at n i
clear_by n t i z (inl l) d = bit_at_and n (n - 1) i ∙ omega (arith, z.below i l)
clear_by n t i z (inr l) d = bit_at_and n (n - 1) i ∙ omega (arith, less-above n t i z (omega (arith, l, d)))

pub clear-other : (n t i : ℕ) → IsLowest n t → i ≢ t → bit_at (bit_and n (n - 1)) i ≡ bit_at n i
clear-other n t i z d = clear_by n t i z (cases_lt i t) d

-- the lowest set bit is where the zeros before it end
pub lowest : (n : ℕ) → 0 < n → n < 2 ^ 64 → (count_trailing_zeros 64 n < 64) × IsLowest n (count_trailing_zeros 64 n)
lowest n s l = let z = bit_at-trailing_zeros w64 n s l in (z.0, record { set = z.1; below = z.2 })

-- all of 64 bits are set
pub below-all : (n : ℕ) → n < 2 ^ 64 → bit_not w64 n ≡ 0 → AreBelowGap n (2 ^ 64 - 1)
below-all n l e =
    let m : n ≡ 2 ^ 64 - 1 = omega (arith, l, e) in record {
      count = 64;
      few = omega arith;
      set = λ j a b. ap (λ (k : ℕ). bit_at k j) m ∙ bit_at_ones 64 j (omega (arith, b));
      are = λ j a b. bit_at_ones 64 j (omega (arith, b));
      above = λ i a b. absurd (omega (arith, a, b));
    }

-- or those below the first that isn't
above_by : (n t i : ℕ) → n < 2 ^ 64 → i < 64 → IsLowest (bit_not w64 n) t → t ≤ i → (i ≡ t) ⊎ (i ≢ t) → bit_at (bit_and n (bit_not w64 n - 1)) i ≡ 0
above_by n t i l w z a (inl e) =
    let f : bit_at (bit_not w64 n - 1) i ≡ 0 = rw e (less-at (bit_not w64 n) t z) in
    bit_at_and n (bit_not w64 n - 1) i ∙ omega (arith, f)
above_by n t i l w z a (inr d) =
    let f : bit_at (bit_not w64 n - 1) i ≡ 1 - bit_at n i = less-above (bit_not w64 n) t i z (omega (arith, a, d)) ∙ bit_at_not w64 n i l w in
    let g = bit_at-lt n i in
    bit_at_and n (bit_not w64 n - 1) i ∙ omega (arith, f, g)

pub below-some : (n : ℕ) → n < 2 ^ 64 → bit_not w64 n ≢ 0 → AreBelowGap n (bit_and n (bit_not w64 n - 1))
below-some n l e =
    let m : ℕ = bit_not w64 n in
    let t : ℕ = count_trailing_zeros 64 m in
    let z = lowest m (omega (arith, e)) (omega (arith, l)) in
    let s : AreSet n 0 t = λ j a b. let f = bit_at_not w64 n j l (omega (arith, b, z.0)) in omega (arith, f, z.1.below j (omega (arith, b))) in record {
      count = t;
      few = omega (arith, z.0);
      set = s;
      are = λ j a b. and_one n (m - 1) j (s j a b) (less-below m t j z.1 (omega (arith, b)));
      above = λ i a b. above_by n t i l a z.1 b (cases_eq i t);
    }

-- the bits of a number of 64 bits that is twice another one
bit_shl : (n i : ℕ) → 0 < i → i < 64 → bit_at (n * 2 ^ 1 % 2 ^ 64) i ≡ bit_at n (i - 1)
bit_shl n i s l = bit_mod (n * 2 ^ 1) 64 i l ∙ ap (λ (m : ℕ). bit_at m i) (sym (add-zero (n * 2 ^ 1))) ∙ bit_at_cat_high n 1 0 i (omega arith) s

bit_shl_zero : (n : ℕ) → bit_at (n * 2 ^ 1 % 2 ^ 64) 0 ≡ 0
bit_shl_zero n = bit_mod (n * 2 ^ 1) 64 0 (omega arith) ∙ ap (λ (m : ℕ). bit_at m 0) (sym (add-zero (n * 2 ^ 1))) ∙ bit_at_cat_low n 1 0 0 (omega arith)

-- one of two bits
or_by : (a b i : ℕ) → max (bit_at a i) (bit_at b i) ≡ 1 → (bit_at a i ≡ 1) ⊎ (bit_at a i ≢ 1) → (bit_at a i ≡ 1) ⊎ (bit_at b i ≡ 1)
or_by a b i e (inl h) = inl h
or_by a b i e (inr h) = let l = bit_at-lt a i in inr (omega (arith, e, h, l))

pub one_of : (a b i : ℕ) → bit_at (bit_or a b) i ≡ 1 → (bit_at a i ≡ 1) ⊎ (bit_at b i ≡ 1)
one_of a b i h = or_by a b i (sym (bit_at_or a b i) ∙ h) (cases_eq (bit_at a i) 1)

-- a field begins at the first place, or behind an end
begin_of : (ends i : ℕ) → i < 64 → 0 < i → (bit_at (ends * 2 ^ 1 % 2 ^ 64) i ≡ 1) ⊎ (bit_at 1 i ≡ 1) → (0 < i) × (bit_at ends (i - 1) ≡ 1)
begin_of ends i l s (inl h) = (s, sym (bit_shl ends i s l) ∙ h)
begin_of ends i l s (inr h) = let z : bit_at 1 i ≡ 0 = bit_at-pow_other 0 i (omega (arith, s)) in absurd (omega (arith, z, h))

begin_by : (ends i : ℕ) → i < 64 → bit_at (bit_or (ends * 2 ^ 1 % 2 ^ 64) 1) i ≡ 1 → (i ≡ 0) ⊎ (i ≢ 0) → (i ≡ 0) ⊎ ((0 < i) × (bit_at ends (i - 1) ≡ 1))
begin_by ends i l h (inl e) = inl e
begin_by ends i l h (inr n) = inr (begin_of ends i l (omega (arith, n)) (one_of (ends * 2 ^ 1 % 2 ^ 64) 1 i h))

-- an end stands behind a digit
behind_by : (digits ends i : ℕ) → i < 64 → bit_at ends i ≡ 1 → bit_at (digits * 2 ^ 1 % 2 ^ 64) i ≡ 1 → (i ≡ 0) ⊎ (i ≢ 0) → (bit_at ends i ≡ 1) × (0 < i) × (bit_at digits (i - 1) ≡ 1)
behind_by digits ends i l e h (inl z) = let f = ap (λ (j : ℕ). bit_at (digits * 2 ^ 1 % 2 ^ 64) j) z ∙ bit_shl_zero digits in absurd (omega (arith, f, h))
behind_by digits ends i l e h (inr n) = let s : 0 < i = omega (arith, n) in (e, s, sym (bit_shl digits i s l) ∙ h)

-- the bits of what is well
abbrev pub good : ℕ → ℕ → ℕ → ℕ
good digits ends signs = bit_or (bit_or digits (bit_and signs (bit_or (ends * 2 ^ 1 % 2 ^ 64) 1))) (bit_and ends (digits * 2 ^ 1 % 2 ^ 64))

good_first : (digits ends signs i : ℕ) → i < 64 → (bit_at digits i ≡ 1) ⊎ (bit_at (bit_and signs (bit_or (ends * 2 ^ 1 % 2 ^ 64) 1)) i ≡ 1) → IsGood digits ends signs i
good_first digits ends signs i l (inl h) = inl h
good_first digits ends signs i l (inr h) = let k = both signs (bit_or (ends * 2 ^ 1 % 2 ^ 64) 1) i h in inr (inl (k.0, begin_by ends i l k.1 (cases_eq i 0)))

good_by : (digits ends signs i : ℕ) → i < 64 → (bit_at (bit_or digits (bit_and signs (bit_or (ends * 2 ^ 1 % 2 ^ 64) 1))) i ≡ 1) ⊎ (bit_at (bit_and ends (digits * 2 ^ 1 % 2 ^ 64)) i ≡ 1) → IsGood digits ends signs i
good_by digits ends signs i l (inl h) = good_first digits ends signs i l (one_of digits (bit_and signs (bit_or (ends * 2 ^ 1 % 2 ^ 64) 1)) i h)
good_by digits ends signs i l (inr h) = let k = both ends (digits * 2 ^ 1 % 2 ^ 64) i h in inr (inr (behind_by digits ends i l k.0 k.1 (cases_eq i 0)))

-- the ends below the first place where something is amiss
few_by : (i count below : ℕ) → i < 64 → bit_at below i ≡ 1 → ((j : ℕ) → j < 64 → count ≤ j → bit_at below j ≡ 0) → (i < count) ⊎ (count ≤ i) → i < count
few_by i count below l h f (inl k) = k
few_by i count below l h f (inr k) = let z = f i l k in absurd (omega (arith, z, h))

pub legal-below : (digits ends signs below : ℕ) → HasNoLongRun digits → AreBelowGap (good digits ends signs) below → AreLegalEnds digits ends signs (bit_and ends below)
legal-below digits ends signs below s b = record {
  count = b.count;
  few = b.few;
  good = λ i l. let w : i < 64 = omega (arith, l, b.few) in good_by digits ends signs i w (one_of (bit_or digits (bit_and signs (bit_or (ends * 2 ^ 1 % 2 ^ 64) 1))) (bit_and ends (digits * 2 ^ 1 % 2 ^ 64)) i (b.set i (omega arith) (omega (arith, l))));
  short = λ _. s;
  is = λ i l h. let k = both ends below i h in (few_by i b.count below l k.1 b.above (cases_lt i b.count), k.0);
  is_not = λ i l h.
      let e : min (bit_at ends i) (bit_at below i) ≡ 0 = sym (bit_at_and ends below i) ∙ h in
      let o : bit_at below i ≡ 1 = b.are i (omega arith) (omega (arith, l)) in
      let f = bit_at-lt ends i in
      omega (arith, e, o, f);
}
