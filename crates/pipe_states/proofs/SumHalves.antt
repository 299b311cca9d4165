-- A mean's sum and its halves.
use Rattle.std.proofs.Common.{◌≡◌, ◌<◌, ◌^◌, ℕ, true, ap, refl, arith}
use Rattle.std.specs.Prelude.{ℤ, pos, negsuc, ◌+ℤ◌, ◌*ℤ◌, Some}
use Rattle.std.specs.Int.{int_div_euclid, int_rem_euclid}
use Rattle.std.proofs.lemmas.Bool.{false≢true}
use Rattle.std.proofs.lemmas.Bool.Decides.{nat_tests}
use Rattle.std.proofs.lemmas.Int.{ints}
use Rattle.pipe_columns.specs.declared.any_value.AnyValue.{AnyValue}
use Rattle.pipe_columns.specs.declared.any_value.AnyValue.TheVariants as av
use Rattle.pipe_columns.specs.declared.data_type.DataType.TheVariants as dt
use Rattle.pipe_columns.specs.AnyValue.{fits, is_signed, is_unsigned}
use Rattle.pipe_states.specs.Forms.{joined_halves}
use Rattle.pipe_states.specs.StateText.{high_half, low_half}

-- a number is its quotient and its remainder
divided : (n : ℤ) → int_div_euclid n (pos (2 ^ 64)) *ℤ pos (2 ^ 64) +ℤ int_rem_euclid n (pos (2 ^ 64)) ≡ n
divided (pos a) = omega (arith, ints)
divided (negsuc a) = omega (arith, ints)

-- a number below 2^64 that is told by a test
below : (b : ℕ) → is_unsigned 64 (pos b) ≡ true → b < 2 ^ 64
below b h = grind (arith, nat_tests)

-- the halves of a number that halves are of
halves_back : (z x y : ℤ) → z ≡ x *ℤ pos (2 ^ 64) +ℤ y → is_unsigned 64 y ≡ true
    → (int_div_euclid z (pos (2 ^ 64)) ≡ x) × (int_rem_euclid z (pos (2 ^ 64)) ≡ y)
halves_back z x (negsuc b) e h = absurd (false≢true h)
halves_back (pos m) (pos a) (pos b) e h =
    let small : b < 2 ^ 64 = below b h in
    (ap pos (omega (arith, ints, e, small)), ap pos (omega (arith, ints, e, small)))
halves_back (pos m) (negsuc a) (pos b) e h =
    let small : b < 2 ^ 64 = below b h in
    absurd (omega (arith, ints, e, small))
halves_back (negsuc m) (pos a) (pos b) e h = absurd (omega (arith, ints, e))
halves_back (negsuc m) (negsuc a) (pos b) e h =
    let small : b < 2 ^ 64 = below b h in
    (ap negsuc (omega (arith, ints, e, small)), ap pos (omega (arith, ints, e, small)))

-- halves are of a number of 128 bits
joined_fits : (z x y : ℤ) → z ≡ x *ℤ pos (2 ^ 64) +ℤ y → is_signed 63 x ≡ true → is_unsigned 64 y ≡ true → is_signed 127 z ≡ true
joined_fits z x (negsuc b) e g h = absurd (false≢true h)
joined_fits (pos m) (pos a) (pos b) e g h =
    let small : b < 2 ^ 64 = below b h in
    let few : a < 2 ^ 63 = grind (arith, nat_tests) in
    let fit : m < 2 ^ 127 = omega (arith, ints, e, small, few) in
    grind (arith, nat_tests)
joined_fits (pos m) (negsuc a) (pos b) e g h =
    let small : b < 2 ^ 64 = below b h in
    absurd (omega (arith, ints, e, small))
joined_fits (negsuc m) (pos a) (pos b) e g h = absurd (omega (arith, ints, e))
joined_fits (negsuc m) (negsuc a) (pos b) e g h =
    let few : a < 2 ^ 63 = grind (arith, nat_tests) in
    let fit : m < 2 ^ 127 = omega (arith, ints, e, few) in
    grind (arith, nat_tests)

-- ---- values

-- a sum is that of its halves
pub joined_back : (v : AnyValue) → fits v dt.Int128 ≡ true → joined_halves (high_half v) (low_half v) ≡ Some v
joined_back av.Null h = refl
joined_back (av.Boolean b) h = absurd (false≢true h)
joined_back (av.Int n) h = ap (λ (z : ℤ). Some (av.Int z)) (divided n)
joined_back (av.Text s) h = absurd (false≢true h)

-- halves are those of their sum, which has 128 bits
pub record AreHalves (x y : ℤ) : Type 0 where
  pub fit : fits (av.Int (x *ℤ pos (2 ^ 64) +ℤ y)) dt.Int128 ≡ true
  pub high : high_half (av.Int (x *ℤ pos (2 ^ 64) +ℤ y)) ≡ av.Int x
  pub low : low_half (av.Int (x *ℤ pos (2 ^ 64) +ℤ y)) ≡ av.Int y

pub are_halves : (x y : ℤ) → fits (av.Int x) dt.Int64 ≡ true → fits (av.Int y) dt.UInt64 ≡ true → AreHalves x y
are_halves x y p q =
    let back = halves_back (x *ℤ pos (2 ^ 64) +ℤ y) x y refl q in record {
      fit = joined_fits (x *ℤ pos (2 ^ 64) +ℤ y) x y refl p q;
      high = ap av.Int back.0;
      low = ap av.Int back.1;
    }
