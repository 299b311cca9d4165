-- To wrap on the way to a sum changes nothing.
use Rattle.std.proofs.Common.{◌≡◌, ◌∙◌, ◌<◌, ◌^◌, ℤ, pos, negsuc, ◌+ℤ◌, refl, sym, ap, arith}
use Rattle.std.specs.Int.{cast_signed, cast_unsigned, int_rem_euclid, int_wrap}
use Rattle.std.specs.Int.RustNames.{unsigned_abs}
use Rattle.std.proofs.lemmas.Int.{ints, int_wrap-add_left, of_z-to_z}
use Rattle.std.proofs.Math.Nat.{mod-eq_of_lt, mod-lt}
use lib.Pow.{pow_pos}
use mir.Syntax.{Width}
use mir.Val.{bits}

-- a wrap under which to wrap a part of a sum changes nothing
pub record WrapsSums (wrap : ℤ → ℤ) : Type 0 where
  pub adds : (m n : ℤ) → wrap (wrap m +ℤ n) ≡ wrap (m +ℤ n)

-- a sum is the same from either side
plus_swaps : (m n : ℤ) → m +ℤ n ≡ n +ℤ m
plus_swaps m n = omega (arith, ints)

-- so to wrap both parts changes nothing
pub wrap-both : (wrap : ℤ → ℤ) → WrapsSums wrap → (m n : ℤ) → wrap (pos 0 +ℤ wrap m +ℤ wrap n) ≡ wrap (m +ℤ n)
wrap-both wrap w m n =
    ap wrap (omega (arith, ints)) ∙ w.adds m (wrap n) ∙ ap wrap (plus_swaps m (wrap n)) ∙ w.adds n m ∙ ap wrap (plus_swaps n m)

-- numbers with a sign wrap so
pub wraps_signed : (w : Width) → WrapsSums (int_wrap w)
wraps_signed w = record { adds = int_wrap-add_left w }

-- and numbers that don't wrap
pub wraps_nothing : WrapsSums (λ n. n)
wraps_nothing = record { adds = λ m n. refl }

-- what is left of a number without a sign
abbrev left : Width → ℤ → ℤ
left w z = int_rem_euclid z (pos (2 ^ bits w))

-- it is within the width
left-small : (w : Width) (z : ℤ) → unsigned_abs (left w z) < 2 ^ bits w
left-small w (pos n) = mod-lt n (pow_pos (bits w))
left-small w (negsuc n) = let small : 0 < 2 ^ bits w = pow_pos (bits w) in omega arith

-- and is no negative number
left-positive : (w : Width) (z : ℤ) → left w z ≡ pos (unsigned_abs (left w z))
left-positive w (pos n) = refl
left-positive w (negsuc n) = refl

-- it is told by the number with a sign that is left
left_is : (w : Width) (z : ℤ) → left w z ≡ pos (cast_unsigned w (int_wrap w z))
unfolding int_wrap
left_is w z = left-positive w z ∙ ap pos (sym (of_z-to_z w (unsigned_abs (left w z)) (left-small w z)))

-- and tells it
wrap-left : (w : Width) (z : ℤ) → int_wrap w (left w z) ≡ int_wrap w z
unfolding int_wrap
wrap-left w z = ap (int_wrap w) (left-positive w z) ∙ ap (cast_signed w) (mod-eq_of_lt (left-small w z))

-- to wrap a part of a sum changes nothing of what is left
left-adds : (w : Width) (m n : ℤ) → left w (left w m +ℤ n) ≡ left w (m +ℤ n)
left-adds w m n =
    left_is w (left w m +ℤ n)
    ∙ ap (λ (z : ℤ). pos (cast_unsigned w z)) (sym (int_wrap-add_left w (left w m) n) ∙ ap (λ (z : ℤ). int_wrap w (z +ℤ n)) (wrap-left w m) ∙ int_wrap-add_left w m n)
    ∙ sym (left_is w (m +ℤ n))

-- numbers without a sign wrap so
pub wraps_unsigned : (w : Width) → WrapsSums (λ z. int_rem_euclid z (pos (2 ^ bits w)))
wraps_unsigned w = record { adds = left-adds w }
