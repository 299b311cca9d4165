-- Two lists of bytes that are compared by two numbers of eight bytes each.
use Rattle.std.proofs.Common.{◌≡◌, ◌∙◌, ℕ, ◌+◌, ◌-◌, ◌<◌, ◌≤◌, ◌⊎◌, Bool, true, false, nat_eq, List, length, length-drop, take, drop, get_or, refl, sym, ap, inl, inr, arith, eqb-true, eq-eqb}
use Rattle.std.specs.Int.{from_le_bytes, to_le_bytes, w64}
use Rattle.std.specs.Str.{bytes_eq}
use Rattle.std.proofs.lemmas.Bool.{cases_lt}
use Rattle.std.proofs.lemmas.List.{ext_get_or, get_or-drop, get_or-take, get_or_past, length-take}
use Rattle.std.proofs.lemmas.Nat.{le_bytes_8}
use Rattle.std.proofs.lemmas.Slice.Eq.{bytes_eq-Decides}

-- each is a byte
abbrev pub AreBytes : List ℕ → Type 0
AreBytes bs = (i : ℕ) → get_or bs i 0 < 256

-- ---- eight of them

eight-long : (bs : List ℕ) (at : ℕ) → at + 8 ≤ length bs → length (take 8 (drop at bs)) ≡ 8
eight-long bs at le = omega (arith, length-take 8 (drop at bs), length-drop at bs)

eight-bytes : (bs : List ℕ) (at : ℕ) → AreBytes bs → AreBytes (take 8 (drop at bs))
eight-bytes bs at h i = by (cases_lt i 8) where
  by : (i < 8) ⊎ (8 ≤ i) → get_or (take 8 (drop at bs)) i 0 < 256
  by (inl lt) = omega (arith, get_or-take 8 (drop at bs) i 0 lt, get_or-drop at bs i 0, h (at + i))
  by (inr le) = omega (arith, get_or_past (take 8 (drop at bs)) i 0 (omega (arith, length-take 8 (drop at bs))))

-- their number has their bytes
pub number-bytes : (bs : List ℕ) (at n : ℕ) → AreBytes bs → at + 8 ≤ length bs → n ≡ from_le_bytes w64 (take 8 (drop at bs)) → to_le_bytes w64 n ≡ take 8 (drop at bs)
number-bytes bs at n bytes le e = le_bytes_8 (take 8 (drop at bs)) n (eight-long bs at le) (eight-bytes bs at bytes) e

-- ---- all of them

-- an element is known by the eight that it is among
at-eight : (bs : List ℕ) (at i : ℕ) → at ≤ i → i < at + 8 → get_or (take 8 (drop at bs)) (i - at) 0 ≡ get_or bs i 0
at-eight bs at i le lt =
    let here : at + (i - at) ≡ i = omega arith in
    get_or-take 8 (drop at bs) (i - at) 0 (omega arith) ∙ get_or-drop at bs (i - at) 0 ∙ ap (λ (k : ℕ). get_or bs k 0) here

-- so 8 to 16 are known by the first eight and the last eight
pub same-by-ends : (a b : List ℕ) (n : ℕ) → length a ≡ n → length b ≡ n → 8 ≤ n → n ≤ 16
    → take 8 (drop 0 a) ≡ take 8 (drop 0 b) → take 8 (drop (n - 8) a) ≡ take 8 (drop (n - 8) b) → a ≡ b
same-by-ends a b n la lb least most front back =
    ext_get_or 0 a b (omega arith) (λ i lt. by i lt (cases_lt i 8)) where
      by : (i : ℕ) → i < length a → (i < 8) ⊎ (8 ≤ i) → get_or a i 0 ≡ get_or b i 0
      by i lt (inl small) =
          sym (at-eight a 0 i (omega arith) (omega arith)) ∙ ap (λ (l : List ℕ). get_or l (i - 0) 0) front ∙ at-eight b 0 i (omega arith) (omega arith)
      by i lt (inr large) =
          sym (at-eight a (n - 8) i (omega arith) (omega arith)) ∙ ap (λ (l : List ℕ). get_or l (i - (n - 8)) 0) back ∙ at-eight b (n - 8) i (omega arith) (omega arith)

-- ---- the test

-- of eight bytes from a position on, the number
pub record IsNumberAt (bs : List ℕ) (at n : ℕ) : Type 0 where
  pub number : n ≡ from_le_bytes w64 (take 8 (drop at bs))
  pub bytes : to_le_bytes w64 n ≡ take 8 (drop at bs)

same-number : (a b : List ℕ) (at n m : ℕ) → IsNumberAt a at n → IsNumberAt b at m → n ≡ m → take 8 (drop at a) ≡ take 8 (drop at b)
same-number a b at n m h k e = sym h.bytes ∙ ap (λ (x : ℕ). to_le_bytes w64 x) e ∙ k.bytes

number-same : (a b : List ℕ) (at n m : ℕ) → IsNumberAt a at n → IsNumberAt b at m → a ≡ b → n ≡ m
number-same a b at n m h k e = h.number ∙ ap (λ (l : List ℕ). from_le_bytes w64 (take 8 (drop at l))) e ∙ sym k.number

module _ (a b : List ℕ) (x y z w : ℕ) (long : length a ≡ length b) (least : 8 ≤ length a) (most : length a ≤ 16) where
  -- where the first numbers are the same, the last ones decide
  pub last-decide : IsNumberAt a 0 x → IsNumberAt b 0 y → IsNumberAt a (length a - 8) z → IsNumberAt b (length a - 8) w → x ≡ y → nat_eq z w ≡ bytes_eq a b
  last-decide h k f g first = by (nat_eq z w) (bytes_eq a b) refl refl where
    whole : z ≡ w → a ≡ b
    whole e = same-by-ends a b (length a) refl (sym long) least most (same-number a b 0 x y h k first) (same-number a b (length a - 8) z w f g e)

    by : (p q : Bool) → nat_eq z w ≡ p → bytes_eq a b ≡ q → p ≡ q
    by true true e d = refl
    by false false e d = refl
    by true false e d = let t : bytes_eq a b ≡ true = (bytes_eq-Decides a b).1 (whole (eqb-true z w e)) in cc
    by false true e d = let t : nat_eq z w ≡ true = eq-eqb z w (number-same a b (length a - 8) z w f g ((bytes_eq-Decides a b).0 d)) in cc
