-- The bytes of a number, most significant first: they are ordered as the numbers are, also where other bytes follow, and a further byte is put behind.
use Rattle.std.proofs.Common.{◌≡◌, ◌++◌, ◌+◌, ◌*◌, ◌^◌, ◌/◌, ◌%◌, ◌<◌, ◌≤◌, ℕ, zero, suc, List, [], ◌∷◌, refl, sym, ◌∙◌, ap, subst, arith, length, take, get_or, inl, inr}
use Rattle.std.specs.declared.cmp.Ordering.{Ordering}
use Rattle.std.specs.declared.cmp.Ordering.TheVariants.{Less, Equal, Greater}
use Rattle.std.specs.Ordering.{nat_cmp, ordering_then}
use Rattle.std.specs.Cmp.Lexicographic.{slice_cmp}
use Rattle.std.specs.Int.{byte_at, bytes_high_first}
use Rattle.std.proofs.Math.Arith.{mod-mul}
use Rattle.std.proofs.Math.Nat.{div-div-eq-div-mul, div-one, mul-le-mul_right, pow-le-pow_right, pow-suc, pow-succ'}
use Rattle.std.proofs.lemmas.Bool.{cases_order}
use Rattle.std.proofs.lemmas.Bool.Decides.{nat_tests}
use Rattle.std.proofs.lemmas.List.{take_more}
use Rattle.std.proofs.lemmas.Nat.{div-mul-add, mod-mul-add, mod_below}

-- of three orderings the first that is no tie decides, however they are grouped
pub then_assoc : (a b c : Ordering) → ordering_then (ordering_then a b) c ≡ ordering_then a (ordering_then b c)
then_assoc Less b c = refl
then_assoc Equal b c = refl
then_assoc Greater b c = refl

-- a lesser number
pub nat_cmp-less : (a b : ℕ) → a < b → nat_cmp a b ≡ Less
nat_cmp-less a b h = grind (arith, nat_tests)

-- a greater number
pub nat_cmp-more : (a b : ℕ) → b < a → nat_cmp a b ≡ Greater
nat_cmp-more a b h = grind (arith, nat_tests)

-- a number and itself
pub nat_cmp-same : (a : ℕ) → nat_cmp a a ≡ Equal
nat_cmp-same a = grind (arith, nat_tests)

-- a greater digit decides
higher : (a b c d w : ℕ) → c < w → a < b → a * w + c < b * w + d
higher a b c d w h l = omega (arith, mul-le-mul_right {m = suc a} {n = b} w l)

-- of two digits to a base the first decides, and else the second
two_digits : (a b c d w : ℕ) → c < w → d < w
    → nat_cmp (a * w + c) (b * w + d) ≡ ordering_then (nat_cmp a b) (nat_cmp c d)
two_digits a b c d w p q = elim (cases_order a b) [
  | inl e ↦ rw (e, nat_cmp-same b) (same c d)
  | inr o ↦ elim o [
    | inl l ↦ rw (nat_cmp-less a b l, nat_cmp-less (a * w + c) (b * w + d) (higher a b c d w p l)) refl
    | inr l ↦ rw (nat_cmp-more a b l, nat_cmp-more (a * w + c) (b * w + d) (higher b a d c w q l)) refl
  ]
]
  where
    same : (c d : ℕ) → nat_cmp (b * w + c) (b * w + d) ≡ nat_cmp c d
    same c d = grind (arith, nat_tests)

-- the byte of a number at a place
pub byte_at-is : (k n : ℕ) → byte_at k n ≡ n / 256 ^ k % 256
byte_at-is zero n = rw div-one refl
byte_at-is (suc k) n = refl

-- a power of 256 is no 0
pow_256 : (k : ℕ) → 0 < 256 ^ k
pow_256 zero = omega arith
pow_256 (suc k) = rw pow-suc (omega (arith, pow_256 k))

-- the number that the last bytes are
byte_and_rest : (k n : ℕ) → n % 256 ^ suc k ≡ byte_at k n * 256 ^ k + n % 256 ^ k
byte_and_rest k n = rw (pow-succ', byte_at-is) (mod-mul n (omega arith) (pow_256 k))

-- bytes are ordered as the numbers that they are
pub bytes_cmp : (k m n : ℕ) (r s : List ℕ)
    → slice_cmp nat_cmp (bytes_high_first k m ++ r) (bytes_high_first k n ++ s)
    ≡ ordering_then (nat_cmp (m % 256 ^ k) (n % 256 ^ k)) (slice_cmp nat_cmp r s)
bytes_cmp zero m n r s =
    let p : m % 1 ≡ 0 = omega arith in
    let q : n % 1 ≡ 0 = omega arith in
    rw (p, q) refl
bytes_cmp (suc k) m n r s =
    ap (ordering_then (nat_cmp (byte_at k m) (byte_at k n))) (bytes_cmp k m n r s)
    ∙ sym (then_assoc (nat_cmp (byte_at k m) (byte_at k n)) (nat_cmp (m % 256 ^ k) (n % 256 ^ k)) (slice_cmp nat_cmp r s))
    ∙ ap (λ o. ordering_then o (slice_cmp nat_cmp r s)) (sym digits)
  where
    digits : nat_cmp (m % 256 ^ suc k) (n % 256 ^ suc k)
        ≡ ordering_then (nat_cmp (byte_at k m) (byte_at k n)) (nat_cmp (m % 256 ^ k) (n % 256 ^ k))
    digits = rw (byte_and_rest k m, byte_and_rest k n)
        (two_digits (byte_at k m) (byte_at k n) (m % 256 ^ k) (n % 256 ^ k) (256 ^ k) (mod_below m (256 ^ k) (pow_256 k)) (mod_below n (256 ^ k) (pow_256 k)))

-- the bytes of a number and one more
pub bytes-more : (k n b : ℕ) → b < 256 → bytes_high_first (suc k) (n * 256 + b) ≡ bytes_high_first k n ++ b ∷ []
bytes-more zero n b h = ap (λ x. x ∷ []) (mod-mul-add n 256 b h)
bytes-more (suc k) n b h = ap (λ x. x ∷ bytes_high_first (suc k) (n * 256 + b)) first ∙ ap (λ xs. byte_at k n ∷ xs) (bytes-more k n b h)
  where
    first : (n * 256 + b) / 256 ^ suc k % 256 ≡ byte_at k n
    first = rw (pow-succ', ← div-div-eq-div-mul (n * 256 + b) 256 (256 ^ k), div-mul-add n 256 b h) (sym (byte_at-is k n))

-- how many bytes there are
pub length-bytes : (k n : ℕ) → length (bytes_high_first k n) ≡ k
length-bytes zero n = refl
length-bytes (suc k) n = omega (arith, length-bytes k n)

-- a further byte of up to 16 fits 128 bits
pub room : (i n : ℕ) → n < 256 ^ i → i < 16 → n * 256 + 255 < 2 ^ 128
room i n p q =
    let w : 256 ^ i ≤ 256 ^ 15 = pow-le-pow_right {n = 256} (omega arith) {i = i} {j = 15} (omega arith) in
    omega (arith, w)

-- the number of the bytes up to one more
below-more : (i n b : ℕ) → n < 256 ^ i → b < 256 → n * 256 + b < 256 ^ suc i
below-more i n b p q = rw pow-suc (omega arith)

-- the range of a number after one more byte was read
pub read_below : (front : List ℕ) (n i : ℕ) → n < 256 ^ i → get_or front i 0 < 256 → n * 256 + get_or front i 0 < 256 ^ (i + 1)
read_below front n i p q =
    let one : suc i ≡ i + 1 = omega arith in
    subst (λ k. n * 256 + get_or front i 0 < 256 ^ k) one (below-more i n (get_or front i 0) p q)

-- the bytes of a number after one more byte was read
pub read_bytes : (front : List ℕ) (n i : ℕ) → bytes_high_first i n ≡ take i front → i < length front → get_or front i 0 < 256
    → bytes_high_first (i + 1) (n * 256 + get_or front i 0) ≡ take (i + 1) front
read_bytes front n i e l q =
    let one : suc i ≡ i + 1 = omega arith in
    subst (λ k. bytes_high_first k (n * 256 + get_or front i 0) ≡ take (i + 1) front) one
    (bytes-more i n (get_or front i 0) q ∙ ap (λ xs. xs ++ get_or front i 0 ∷ []) e ∙ sym (take_more front i 0 l))
