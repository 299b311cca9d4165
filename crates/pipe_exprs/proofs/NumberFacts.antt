-- Numbers of 128 bits, and what is left of them in fewer.
use Rattle.std.proofs.Common.{◌≡◌, ◌∙◌, ◌^◌, ◌<◌, ◌≤◌, ℕ, zero, suc, true, false, ℤ, pos, negsuc, neg_ℤ, ◌-ℤ◌, ◌*ℤ◌, to_z, of_z, refl, ap, arith}
use Rattle.std.specs.Int.{int_wrap, int_rem_euclid, w128}
use Rattle.std.specs.Int.RustNames.{FitsSigned, unsigned_abs}
use Rattle.std.proofs.lemmas.Int.{ints, to_z-of_z, fits_signed_mul}
use lib.Signed.{lt_z}
use mir.Syntax.{Width}
use mir.Val.{bits}
use Rattle.pipe_columns.specs.declared.any_value.AnyValue.TheVariants as av
use Rattle.pipe_columns.specs.declared.data_type.DataType.{DataType}
use Rattle.pipe_columns.specs.declared.data_type.DataType.TheVariants as dt
use Rattle.pipe_columns.specs.AnyValue.{fits_number, is_signed, is_unsigned}
use Rattle.pipe_model.specs.Operators.{floor_quotient, number_if_any, where_divisible}
use Rattle.pipe_columns.specs.DataType.{wrapped, is_integer, same_type}

-- the bits that are left of a number, read as a signed one
pub wrapped_is : (w : Width) (n m r : ℤ) → FitsSigned w128 n → FitsSigned w128 m → FitsSigned w r → FitsSigned w128 r
    → m ≡ int_rem_euclid (to_z w128 (of_z w128 n)) (pos (2 ^ bits w)) → r ≡ to_z w (unsigned_abs (to_z w128 (of_z w128 m)))
    → to_z w128 (of_z w128 (to_z w (of_z w r))) ≡ int_wrap w n
unfolding int_wrap
wrapped_is w n m r fn fm short fr rest cast =
    ap (λ (z : ℤ). to_z w128 (of_z w128 z)) (to_z-of_z w r short) ∙ to_z-of_z w128 r fr ∙ cast
    ∙ ap (λ (z : ℤ). to_z w (unsigned_abs z)) (to_z-of_z w128 m fm ∙ rest)
    ∙ ap (λ (z : ℤ). to_z w (unsigned_abs (int_rem_euclid z (pos (2 ^ bits w))))) (to_z-of_z w128 n fn)

-- ---- what is left after a quotient rounded down

-- what is left of a number by a negative divisor
left_by_negative : (a : ℤ) (k : ℕ) → neg_ℤ (int_rem_euclid (neg_ℤ a) (pos (suc k))) ≡ a -ℤ negsuc k *ℤ floor_quotient a (negsuc k)
left_by_negative (pos zero) k = omega (arith, ints)
left_by_negative (pos (suc n)) k = omega (arith, ints)
left_by_negative (negsuc n) k = omega (arith, ints)

-- a number read back from its bits, negated
negated : (z : ℤ) → unsigned_abs z ≤ 2 ^ 64 → to_z w128 (of_z w128 (pos 0 -ℤ to_z w128 (of_z w128 z))) ≡ neg_ℤ z
negated z h = omega (arith, ints)

-- it is that which the code finds
pub modulus_is : (t : DataType) (a b r w : ℤ) → unsigned_abs a ≤ 2 ^ 64 → unsigned_abs b ≤ 2 ^ 64 → (of_z w128 b ≡ 0 → ⊥) → lt_z (pos 0) (to_z w128 (of_z w128 b)) ≡ false
    → unsigned_abs r < unsigned_abs (to_z w128 (of_z w128 (pos 0 -ℤ to_z w128 (of_z w128 b))))
    → r ≡ int_rem_euclid (to_z w128 (of_z w128 (pos 0 -ℤ to_z w128 (of_z w128 a)))) (to_z w128 (of_z w128 (pos 0 -ℤ to_z w128 (of_z w128 b))))
    → FitsSigned w128 w → w ≡ wrapped t (to_z w128 (of_z w128 (pos 0 -ℤ to_z w128 (of_z w128 r))))
    → av.Int (to_z w128 (of_z w128 w)) ≡ number_if_any t (where_divisible b (a -ℤ b *ℤ floor_quotient a b))
modulus_is t a (pos zero) r w ha hb nonzero low less rest fw is = absurd (nonzero refl)
modulus_is t a (pos (suc k)) r w ha hb nonzero low less rest fw is = absurd (grind (arith, ints))
modulus_is t a (negsuc k) r w ha hb nonzero low less rest fw is =
    let nb = negated (negsuc k) hb in
    let few : unsigned_abs r < suc k = rw nb at less in
    let left : r ≡ int_rem_euclid (neg_ℤ a) (pos (suc k)) = rest ∙ rw (negated a ha, nb) refl in
    rw (to_z-of_z w128 w fw) (ap av.Int (is ∙ ap (wrapped t) (negated r (omega arith) ∙ ap neg_ℤ left ∙ left_by_negative a k)))

-- ---- products

signed_short : (n : ℕ) (z : ℤ) → is_signed n z ≡ true → 2 ^ n ≤ 2 ^ 63 → unsigned_abs z ≤ 2 ^ 63
signed_short n (pos k) h le = grind arith
signed_short n (negsuc k) h le = grind arith

unsigned_short : (n : ℕ) (z : ℤ) → is_unsigned n z ≡ true → 2 ^ n ≤ 2 ^ 63 → unsigned_abs z ≤ 2 ^ 63
unsigned_short n (pos k) h le = grind arith
unsigned_short n (negsuc k) h le = cc

-- numbers of the integer types but the widest without sign
short : (t : DataType) (z : ℤ) → is_integer t ≡ true → same_type t dt.UInt64 ≡ false → fits_number z t ≡ true → unsigned_abs z ≤ 2 ^ 63
short dt.Boolean z i u h = cc
short dt.Int8 z i u h = signed_short 7 z h (omega arith)
short dt.Int16 z i u h = signed_short 15 z h (omega arith)
short dt.Int32 z i u h = signed_short 31 z h (omega arith)
short dt.Int64 z i u h = signed_short 63 z h (omega arith)
short dt.UInt8 z i u h = unsigned_short 8 z h (omega arith)
short dt.UInt16 z i u h = unsigned_short 16 z h (omega arith)
short dt.UInt32 z i u h = unsigned_short 32 z h (omega arith)
short dt.UInt64 z i u h = cc
short dt.Int128 z i u h = cc
short dt.Date z i u h = cc
short dt.String z i u h = cc

-- numbers of any integer type
pub number_short : (t : DataType) (z : ℤ) → is_integer t ≡ true → fits_number z t ≡ true → unsigned_abs z ≤ 2 ^ 64
number_short dt.Boolean z i h = cc
number_short dt.Int8 z i h = omega (arith, short dt.Int8 z i refl h)
number_short dt.Int16 z i h = omega (arith, short dt.Int16 z i refl h)
number_short dt.Int32 z i h = omega (arith, short dt.Int32 z i refl h)
number_short dt.Int64 z i h = omega (arith, short dt.Int64 z i refl h)
number_short dt.UInt8 z i h = omega (arith, short dt.UInt8 z i refl h)
number_short dt.UInt16 z i h = omega (arith, short dt.UInt16 z i refl h)
number_short dt.UInt32 z i h = omega (arith, short dt.UInt32 z i refl h)
number_short dt.UInt64 (pos k) i h = grind arith
number_short dt.UInt64 (negsuc k) i h = cc
number_short dt.Int128 z i h = cc
number_short dt.Date z i h = cc
number_short dt.String z i h = cc

-- their product is one of 128 bits
pub product_is : (t : DataType) (a b : ℤ) → is_integer t ≡ true → same_type t dt.UInt64 ≡ false → fits_number a t ≡ true → fits_number b t ≡ true → FitsSigned w128 a → FitsSigned w128 b
    → to_z w128 (of_z w128 (to_z w128 (of_z w128 a) *ℤ to_z w128 (of_z w128 b))) ≡ a *ℤ b
product_is t a b i u ha hb fa fb =
    let wide : FitsSigned w128 (a *ℤ b) = fits_signed_mul w128 a b (2 ^ 63) (2 ^ 63) (short t a i u ha) (short t b i u hb) (omega arith) in
    rw (to_z-of_z w128 a fa, to_z-of_z w128 b fb) (to_z-of_z w128 (a *ℤ b) wide)
