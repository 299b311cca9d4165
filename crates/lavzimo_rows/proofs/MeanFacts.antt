-- Quotients of millionths, by long division.
use Rattle.std.proofs.Common.{◌≡◌, ◌∙◌, ◌+◌, ◌*◌, ◌/◌, ◌%◌, ◌<◌, ℕ, Bool, if◌then◌else◌, ap, arith}
use Rattle.std.proofs.Math.Nat.{mul-add-div_right, mul-add-mod_self_right}
use Rattle.std.proofs.lemmas.Nat.{div-add-mod'}
use Rattle.std.proofs.lemmas.Bool.Decides.{nat_tests}
use Rattle.lavzimo_rows.specs.Mean.{rounded, rounded_by}

-- the millionths of a number, by its quotient and what is left
scaled : (n d : ℕ) → n * 1000000 ≡ (n / d * 1000000) * d + n % d * 1000000
scaled n d = grind (arith, div-add-mod' n d)

-- their quotient
scaled-div : (n d : ℕ) → 0 < d → n * 1000000 / d ≡ n / d * 1000000 + n % d * 1000000 / d
scaled-div n d some = ap (λ x. x / d) (scaled n d) ∙ mul-add-div_right some (n / d * 1000000) (n % d * 1000000)

-- what is left of it
scaled-mod : (n d : ℕ) → n * 1000000 % d ≡ n % d * 1000000 % d
scaled-mod n d = ap (λ x. x % d) (scaled n d) ∙ mul-add-mod_self_right (n / d * 1000000) d (n % d * 1000000)

-- whole numbers of millionths in front are rounded to themselves
rounded_by-whole : (whole quotient left divisor : ℕ) → rounded_by (whole * 1000000 + quotient) left divisor ≡ whole * 1000000 + rounded_by quotient left divisor
rounded_by-whole whole quotient left divisor = grind (arith, nat_tests)

-- a rounded quotient, by the whole number in front and what is left
pub rounded_is : (n d : ℕ) → 0 < d → rounded (n * 1000000) d ≡ n / d * 1000000 + rounded_by (n % d * 1000000 / d) (n % d * 1000000 % d) d
rounded_is n d some = rw (scaled-div n d some, scaled-mod n d) (rounded_by-whole (n / d) _ _ d)

-- the same where it is known whether it is rounded upwards
pub rounded_known : (n d wide narrow : ℕ) (up : Bool) → wide ≡ d → narrow ≡ d → 0 < d
    → rounded_by (n % wide * 1000000 / narrow) (n % wide * 1000000 % narrow) narrow ≡ (if up then n % wide * 1000000 / narrow + 1 else n % wide * 1000000 / narrow)
    → rounded (n * 1000000) d ≡ n / wide * 1000000 + (if up then n % wide * 1000000 / narrow + 1 else n % wide * 1000000 / narrow)
rounded_known n d wide narrow up e f some known = rw (← known, e, f) (rounded_is n d some)
