use Rattle.std.proofs.Common.{◌≡◌, ◌+◌, ◌-◌, ℕ, refl, arith}
use Rattle.pipe_scan.specs.NextStop.{IsSeen}
use Rattle.pipe_scan.specs.Stops.{is_no_digit}
use Rattle.pipe_scan.proofs.PlainFacts.{number-field, short-seen}
use Rattle.pipe_scan.proofs.plain_field.number_end.Goals as goal

-- the digits go from behind the sign to the end
digits_seen : (c : goal.Then-are_digits) → IsSeen is_no_digit c.args.text.now (c.args.stops.now.cursor + c.from.result) c.in_ok-end.end
digits_seen c =
    let first : ℕ = c.args.stops.now.cursor + c.from.result in
    let e : first + (c.in_ok-end.end - first) ≡ c.in_ok-end.end = omega (arith, c.if-first-end.false) in
    rw e at (c.are_digits.ensures c.if-are_digits.true)

pub returns-then-are_digits-clause-short : goal.returns-then-are_digits-clause-short
returns-then-are_digits-clause-short c =
    let low : ℕ = c.args.stops.now.cursor in
    short-seen c.args.text.now low (low + c.from.result) c.in_ok-end.end (λ k. (c.type_inv.text k).fits) (rw c.from.ensures refl) (digits_seen c) (omega (arith, c.if-first-end.false)) (omega (arith, c.if-end-first-gt-MOST_DIGITS.false))

pub returns-then-are_digits-clause-field : goal.returns-then-are_digits-clause-field
returns-then-are_digits-clause-field c =
    let low : ℕ = c.args.stops.now.cursor in
    number-field c.args.text.now c.args.is_last low (low + c.from.result) c.in_ok-end.end (λ k. (c.type_inv.text k).fits) (rw c.from.ensures refl) (digits_seen c) (c.ends_as.ensures c.if-not-ends_as.false)
