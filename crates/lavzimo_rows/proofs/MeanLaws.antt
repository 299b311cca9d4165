-- Rounded quotients are nearest.
use Rattle.std.proofs.Common.{◌≡◌, ◌+◌, ◌*◌, ◌/◌, ◌%◌, ◌<◌, ◌≤◌, ◌==◌, ℕ, ℤ, zero, suc, pos, negsuc, neg_ℤ, nat_lt, if◌then◌else◌, refl, sym, arith, inl, inr}
use Rattle.std.proofs.Math.Nat.{zero-div, zero-mod}
use Rattle.std.proofs.lemmas.Bool.{cases_Bool, cond-true, cond-false, ltb-true, ltb-false}
use Rattle.std.proofs.lemmas.Bool.Decides.{nat_tests}
use Rattle.std.proofs.lemmas.Nat.{div-add-mod', mod_below}
use Rattle.lavzimo_rows.specs.Laws.{IsNearest}
use Rattle.lavzimo_rows.specs.Mean.{mean_micros, rounded, rounded_by}

-- the quotient is near where less than half is left, or half of it and the quotient is even
kept : (n d q r product : ℕ) → product ≡ q * d → product + r ≡ n → r < d → 2 * r ≤ d → (2 * r ≡ d → q % 2 ≡ 0) → IsNearest n d q
kept n d q r product is whole left half even = record {
  above = rw (← is) (omega arith);
  below = rw (← is) (omega arith);
  even_above = rw (← is) (λ e. absurd (omega arith));
  even_below = rw (← is) (λ e. even (omega arith));
}

-- so is the next one where more than half is left, or half of it and the next one is even
raised : (n d q r product : ℕ) → product ≡ q * d → product + r ≡ n → r < d → d ≤ 2 * r → (2 * r ≡ d → (q + 1) % 2 ≡ 0) → IsNearest n d (q + 1)
raised n d q r product is whole left half even =
    let next : (q + 1) * d ≡ product + d = grind (arith, is) in
    record {
      above = rw next (omega arith);
      below = rw next (omega arith);
      even_above = rw next (λ e. even (omega arith));
      even_below = rw next (λ e. absurd (omega arith));
    }

-- by the quotient and what is left, with their product
nearest_by : (n d q r product : ℕ) → product ≡ q * d → product + r ≡ n → r < d → IsNearest n d (rounded_by q r d)
nearest_by n d q r product is whole left =
    let tied : ℕ = q + q % 2 in
    let more : ℕ = if nat_lt d (2 * r) then q + 1 else tied in
    elim (cases_Bool (nat_lt (2 * r) d)) [
      | inl short ↦
          let few : 2 * r < d = ltb-true _ _ short in
          rw (cond-true (nat_lt (2 * r) d) q more short) (kept n d q r product is whole left (omega arith) (λ e. absurd (omega arith)))
      | inr other ↦
          let not_few : d ≤ 2 * r = ltb-false _ _ other in
          rw (cond-false (nat_lt (2 * r) d) q more other)
          (elim (cases_Bool (nat_lt d (2 * r))) [
            | inl long ↦
                let many : d < 2 * r = ltb-true _ _ long in
                rw (cond-true (nat_lt d (2 * r)) (q + 1) tied long) (raised n d q r product is whole left (omega arith) (λ e. absurd (omega arith)))
            | inr half ↦
                let not_many : 2 * r ≤ d = ltb-false _ _ half in
                rw (cond-false (nat_lt d (2 * r)) (q + 1) tied half)
                (elim (cases_Bool (q % 2 == 0)) [
                  | inl even ↦
                      let same : q % 2 ≡ 0 = grind (arith, nat_tests) in
                      let at : tied ≡ q = omega arith in
                      rw at (kept n d q r product is whole left not_many (λ e. same))
                  | inr odd ↦
                      let one : q % 2 ≡ 1 = grind (arith, nat_tests) in
                      let at : tied ≡ q + 1 = omega arith in
                      rw at (raised n d q r product is whole left not_few (λ e. omega arith))
                ])
          ])
    ]

pub nearest : (n d : ℕ) → 0 < d → IsNearest n d (rounded n d)
nearest n d some = nearest_by n d (n / d) (n % d) (n / d * d) refl (div-add-mod' n d) (mod_below n d some)

-- 0 has no sign
double_neg : (z : ℤ) → neg_ℤ (neg_ℤ z) ≡ z
double_neg (pos zero) = refl
double_neg (pos (suc n)) = refl
double_neg (negsuc n) = refl

-- nothing is rounded to nothing
nothing : (d : ℕ) → rounded 0 d ≡ 0
nothing d = grind (arith, nat_tests, zero-div d, zero-mod d)

-- a mean below 0 is rounded as the one above it
pub turned_mean : (sum : ℤ) (count : ℕ) → mean_micros (neg_ℤ sum) count ≡ neg_ℤ (mean_micros sum count)
turned_mean (pos zero) count = rw (nothing count) refl
turned_mean (pos (suc n)) count = refl
turned_mean (negsuc n) count = sym (double_neg (pos (rounded (suc n * 1000000) count)))
