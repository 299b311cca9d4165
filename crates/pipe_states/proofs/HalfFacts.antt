-- A sum in halves.
use Rattle.std.proofs.Common.{◌≡◌, ◌∙◌, ℕ, suc, ◌+◌, ◌*◌, ◌/◌, ◌%◌, ◌-◌, ◌^◌, ◌<◌, ◌≤◌, ◌==◌, ◌&&◌, not, ℤ, pos, negsuc, unsigned_abs, Bool, true, false, nat_le, div-add-mod', div-lt_iff_lt-mul, mod-lt, suc-mul, leb-true, lt-ltb, refl, sym, ap, arith}
use Rattle.std.specs.Int.{int_div_euclid, int_rem_euclid}
use Rattle.pipe_columns.specs.declared.any_value.AnyValue.{AnyValue}
use Rattle.pipe_columns.specs.declared.any_value.AnyValue.TheVariants as av
use Rattle.pipe_columns.specs.declared.data_type.DataType.TheVariants as dt
use Rattle.pipe_columns.specs.AnyValue.{fits, is_signed, is_unsigned}
use Rattle.pipe_states.specs.Fair.{does_sum_suit, is_count_within}
use Rattle.pipe_states.specs.StateText.{high_half, low_half}

-- the number in a value
abbrev number_of : AnyValue → ℤ
number_of av.Null = pos 0
number_of (av.Boolean b) = pos 0
number_of (av.Int n) = n
number_of (av.Text s) = pos 0

-- natural numbers are told by quotient and remainder
divided : (n a b : ℕ) → a / n ≡ b / n → a % n ≡ b % n → a ≡ b
divided n a b e f = sym (div-add-mod' a n) ∙ (λ i. e i * n + f i) ∙ div-add-mod' b n

-- a number without its sign
abbrev size : ℤ → ℕ
size (pos n) = n
size (negsuc n) = n

-- and so are integers, where the divisor is a positive number
halves_tell : (n : ℕ) → 0 < n → (x y : ℤ) → int_div_euclid x (pos n) ≡ int_div_euclid y (pos n) → int_rem_euclid x (pos n) ≡ int_rem_euclid y (pos n) → x ≡ y
halves_tell n some (pos a) (pos b) e f = ap pos (divided n a b (ap size e) (ap size f))
halves_tell n some (pos a) (negsuc b) e f = cc
halves_tell n some (negsuc a) (pos b) e f = cc
halves_tell n some (negsuc a) (negsuc b) e f =
    let left : a % n < n = mod-lt a some in
    let right : b % n < n = mod-lt b some in
    let rest : n - 1 - a % n ≡ n - 1 - b % n = ap size f in
    ap negsuc (divided n a b (ap size e) (omega (arith, left, right, rest)))

-- so the halves of a sum tell it
pub halves_once : (v w : AnyValue) → fits v dt.Int128 ≡ true → fits w dt.Int128 ≡ true → high_half v ≡ high_half w → low_half v ≡ low_half w → v ≡ w
halves_once av.Null av.Null p r e f = refl
halves_once av.Null (av.Int n) p r e f = cc
halves_once (av.Int m) av.Null p r e f = cc
halves_once (av.Int m) (av.Int n) p r e f = ap av.Int (halves_tell (2 ^ 64) (omega arith) m n (ap number_of e) (ap number_of f))
halves_once (av.Boolean b) w p r e f = cc
halves_once (av.Text s) w p r e f = cc
halves_once av.Null (av.Boolean b) p r e f = cc
halves_once av.Null (av.Text s) p r e f = cc
halves_once (av.Int m) (av.Boolean b) p r e f = cc
halves_once (av.Int m) (av.Text s) p r e f = cc

-- ---- what fits

-- a quotient is no more than what the divisor was taken times
quotient-bound : (n a c : ℕ) → 0 < n → a ≤ c * n → a / n ≤ c
quotient-bound n a c some le =
    let product : suc c * n ≡ c * n + n = suc-mul c n in
    let less : a / n < suc c = (div-lt_iff_lt-mul some).1 (omega (arith, product)) in
    omega (arith, less)

-- the high half of a sum of at most 2^64 for each of fewer than 2^32
high-number : (n : ℕ) (c : ℕ) → 0 < n → (x : ℤ) → unsigned_abs x ≤ c * n → c < 2 ^ 32 → is_signed 63 (int_div_euclid x (pos n)) ≡ true
high-number n c some (pos a) le few = let small = quotient-bound n a c some le in lt-ltb (a / n) (2 ^ 63) (omega (arith, small))
high-number n c some (negsuc a) le few = let small = quotient-bound n a c some (omega (arith, le)) in lt-ltb (a / n) (2 ^ 63) (omega (arith, small))

-- and its low half
low-number : (n : ℕ) → 0 < n → n ≤ 2 ^ 64 → (x : ℤ) → is_unsigned 64 (int_rem_euclid x (pos n)) ≡ true
low-number n some most (pos a) = let small : a % n < n = mod-lt a some in lt-ltb (a % n) (2 ^ 64) (omega (arith, small))
low-number n some most (negsuc a) = lt-ltb (n - 1 - a % n) (2 ^ 64) (omega arith)

-- the parts of a test of two
pub both_true : (a b : Bool) → a && b ≡ true → (a ≡ true) × (b ≡ true)
both_true true b e = (refl, e)
both_true false b e = cc

-- a count within fewer than 2^32 is one
count-few : (m n : ℕ) → nat_le m n ≡ true → n < 2 ^ 32 → m < 2 ^ 32
count-few m n e few = let le = leb-true m n e in omega (arith, le)

-- so the halves of the sum of a mean fit
pub halves-fit : (n : ℕ) (v w : AnyValue) → n < 2 ^ 32 → is_count_within n w ≡ true → does_sum_suit v w ≡ true → (fits (high_half v) dt.Int64 ≡ true) × (fits (low_half v) dt.UInt64 ≡ true)
halves-fit n av.Null w few c s = (refl, refl)
halves-fit n (av.Int x) (av.Int (pos m)) few c s =
    let parts = both_true (not (m == 0)) (nat_le (unsigned_abs x) (m * 2 ^ 64)) s in
    (high-number (2 ^ 64) m (omega arith) x (leb-true (unsigned_abs x) (m * 2 ^ 64) parts.1) (count-few m n c few), low-number (2 ^ 64) (omega arith) (omega arith) x)
halves-fit n (av.Int x) (av.Int (negsuc m)) few c s = cc
halves-fit n (av.Int x) av.Null few c s = cc
halves-fit n (av.Int x) (av.Boolean b) few c s = cc
halves-fit n (av.Int x) (av.Text t) few c s = cc
halves-fit n (av.Boolean b) w few c s = cc
halves-fit n (av.Text t) w few c s = cc
