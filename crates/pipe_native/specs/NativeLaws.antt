-- Of the proofs alone: numbers wrapped into each number type.
use Rattle.std.proofs.Common.{◌≡◌, ◌∙◌, ℕ, ◌<◌, ◌^◌, ℤ, pos, negsuc, ◌+ℤ◌, true, refl, sym, ap, arith}
use Rattle.std.specs.Int.{cast_signed, cast_unsigned, int_rem_euclid, int_wrap, w8, w16, w32, w64, w128}
use Rattle.std.specs.Int.RustNames.{FitsSigned}
use Rattle.std.proofs.lemmas.Int.{fits_signed_from_abs, ints, int_wrap-add_right, int_wrap_fits, of_z-to_z, SFits-int_wrap}
use Rattle.std.proofs.lemmas.Bool.{lt-ltb, ltb-true}
use Rattle.std.proofs.Math.Nat.{mod-eq_of_lt, mod-lt}
use lib.Pow.{pow_pos}
use mir.Syntax.{Width}
use mir.Val.{bits, hbits}
use Rattle.pipe_columns.specs.AnyValue.{is_signed, is_unsigned}
use Rattle.pipe_native.specs.Native.{IsNative, native_i8, native_i16, native_i32, native_i64, native_i128, native_u8, native_u16, native_u32, native_u64, remainder}

-- ---- without a sign

-- a remainder has so many bits
remainder-small : (w : Width) (n : ℤ) → remainder (bits w) n < 2 ^ bits w
remainder-small w (pos n) = mod-lt n (pow_pos (bits w))
remainder-small w (negsuc n) = let small : 0 < 2 ^ bits w = pow_pos (bits w) in omega arith

-- a number of so many bits is its own remainder
remainder-keeps : (b n : ℕ) → n < 2 ^ b → remainder b (pos n) ≡ n
remainder-keeps b n h = mod-eq_of_lt h

-- numbers that wrap alike with a sign leave the same remainder
same_remainder : (w : Width) (m n : ℤ) → int_wrap w m ≡ int_wrap w n
    → remainder (bits w) m ≡ remainder (bits w) n
unfolding int_wrap
same_remainder w m n e =
    sym (of_z-to_z w (remainder (bits w) m) (remainder-small w m)) ∙ ap (cast_unsigned w) e
    ∙ of_z-to_z w (remainder (bits w) n) (remainder-small w n)

-- a remainder wraps as the number does
int_wrap-remainder : (w : Width) (n : ℤ) → int_wrap w (pos (remainder (bits w) n)) ≡ int_wrap w n
unfolding int_wrap
int_wrap-remainder w n =
    ap (cast_signed w) (remainder-keeps (bits w) (remainder (bits w) n) (remainder-small w n))

-- to leave a remainder on the way to a sum changes nothing
remainder-adds : (w : Width) (m n : ℤ)
    → remainder (bits w) (m +ℤ pos (remainder (bits w) n)) ≡ remainder (bits w) (m +ℤ n)
remainder-adds w m n = same_remainder w _ _
    (sym (int_wrap-add_right w m (pos (remainder (bits w) n)))
    ∙ ap (λ (z : ℤ). int_wrap w (m +ℤ z)) (int_wrap-remainder w n) ∙ int_wrap-add_right w m n)

-- a remainder is the Euclidean one
remainder_is : (b : ℕ) (n : ℤ) → pos (remainder b n) ≡ int_rem_euclid n (pos (2 ^ b))
remainder_is b (pos n) = refl
remainder_is b (negsuc n) = refl

-- a number in the range is kept
unsigned-keeps : (b : ℕ) (n : ℤ) → is_unsigned b n ≡ true → pos (remainder b n) ≡ n
unsigned-keeps b (pos n) e = ap pos (remainder-keeps b n (ltb-true n (2 ^ b) e))
unsigned-keeps b (negsuc n) e = cc

-- ---- with one

-- a number that fits so many bits with a sign is in the range
signed-fits : (w : Width) (z : ℤ) → FitsSigned w z → is_signed (hbits w) z ≡ true
signed-fits w (pos n) f = lt-ltb n (2 ^ hbits w) (omega (arith, ints))
signed-fits w (negsuc n) f = lt-ltb n (2 ^ hbits w) (omega (arith, ints))

-- a number in the range fits so many bits with a sign
fits-signed : (w : Width) (z : ℤ) → is_signed (hbits w) z ≡ true → FitsSigned w z
fits-signed w (pos n) e = fits_signed_from_abs w (pos n) (ltb-true n (2 ^ hbits w) e)
fits-signed w (negsuc n) e =
    let h : n < 2 ^ hbits w = ltb-true n (2 ^ hbits w) e in omega (arith, ints)

-- ---- the nine

-- `i8` is such a type
pub is_native_i8 : IsNative native_i8
is_native_i8 = record {
  adds = int_wrap-add_right w8;
  gives = λ n. refl;
  fits = λ n. signed-fits w8 (int_wrap w8 n) (SFits-int_wrap w8 n);
  keeps = λ n e. int_wrap_fits w8 n (fits-signed w8 n e);
  no_boolean = refl;
  no_string = refl;
}

-- `i16` is such a type
pub is_native_i16 : IsNative native_i16
is_native_i16 = record {
  adds = int_wrap-add_right w16;
  gives = λ n. refl;
  fits = λ n. signed-fits w16 (int_wrap w16 n) (SFits-int_wrap w16 n);
  keeps = λ n e. int_wrap_fits w16 n (fits-signed w16 n e);
  no_boolean = refl;
  no_string = refl;
}

-- `i32` is such a type
pub is_native_i32 : IsNative native_i32
is_native_i32 = record {
  adds = int_wrap-add_right w32;
  gives = λ n. refl;
  fits = λ n. signed-fits w32 (int_wrap w32 n) (SFits-int_wrap w32 n);
  keeps = λ n e. int_wrap_fits w32 n (fits-signed w32 n e);
  no_boolean = refl;
  no_string = refl;
}

-- `i64` is such a type
pub is_native_i64 : IsNative native_i64
is_native_i64 = record {
  adds = int_wrap-add_right w64;
  gives = λ n. refl;
  fits = λ n. signed-fits w64 (int_wrap w64 n) (SFits-int_wrap w64 n);
  keeps = λ n e. int_wrap_fits w64 n (fits-signed w64 n e);
  no_boolean = refl;
  no_string = refl;
}

-- `i128` is such a type
pub is_native_i128 : IsNative native_i128
is_native_i128 = record {
  adds = int_wrap-add_right w128;
  gives = λ n. refl;
  fits = λ n. signed-fits w128 (int_wrap w128 n) (SFits-int_wrap w128 n);
  keeps = λ n e. int_wrap_fits w128 n (fits-signed w128 n e);
  no_boolean = refl;
  no_string = refl;
}

-- `u8` is such a type
pub is_native_u8 : IsNative native_u8
is_native_u8 = record {
  adds = remainder-adds w8;
  gives = remainder_is 8;
  fits = λ n. lt-ltb (remainder 8 n) (2 ^ 8) (remainder-small w8 n);
  keeps = unsigned-keeps 8;
  no_boolean = refl;
  no_string = refl;
}

-- `u16` is such a type
pub is_native_u16 : IsNative native_u16
is_native_u16 = record {
  adds = remainder-adds w16;
  gives = remainder_is 16;
  fits = λ n. lt-ltb (remainder 16 n) (2 ^ 16) (remainder-small w16 n);
  keeps = unsigned-keeps 16;
  no_boolean = refl;
  no_string = refl;
}

-- `u32` is such a type
pub is_native_u32 : IsNative native_u32
is_native_u32 = record {
  adds = remainder-adds w32;
  gives = remainder_is 32;
  fits = λ n. lt-ltb (remainder 32 n) (2 ^ 32) (remainder-small w32 n);
  keeps = unsigned-keeps 32;
  no_boolean = refl;
  no_string = refl;
}

-- `u64` is such a type
pub is_native_u64 : IsNative native_u64
is_native_u64 = record {
  adds = remainder-adds w64;
  gives = remainder_is 64;
  fits = λ n. lt-ltb (remainder 64 n) (2 ^ 64) (remainder-small w64 n);
  keeps = unsigned-keeps 64;
  no_boolean = refl;
  no_string = refl;
}
