use Rattle.std.proofs.Common.{arith}
use Rattle.pipe_scan.proofs.NumberFacts.{below_most, room_for_digit}
use Rattle.pipe_scan.proofs.numbers.short_digits.Goals as goal

pub overflow_mul-number : goal.overflow_mul-number
overflow_mul-number c = omega (arith, room_for_digit c.loop-digit.digit-index c.loop-digit.number (omega arith) c.loop-digit.invariant.bound)

pub overflow_add-number : goal.overflow_add-number
overflow_add-number c = omega (arith, room_for_digit c.loop-digit.digit-index c.loop-digit.number (omega arith) c.loop-digit.invariant.bound)

pub returns-clause-small : goal.returns-clause-small
returns-clause-small c = below_most c.loop-digit.digit-index c.loop-digit.number (omega arith) c.loop-digit.invariant.bound
