use Rattle.std.proofs.Common.{arith}
use Rattle.pipe_words.proofs.DigitFacts.{room_for_digit}
use Rattle.pipe_words.proofs.numbers.read_number.Goals as goal

pub overflow_mul-number : goal.overflow_mul-number
overflow_mul-number c = omega (arith, room_for_digit c.loop-digit.digit-index c.loop-digit.number (omega arith) c.loop-digit.invariant.bound)

pub overflow_add-number : goal.overflow_add-number
overflow_add-number c = omega (arith, room_for_digit c.loop-digit.digit-index c.loop-digit.number (omega arith) c.loop-digit.invariant.bound)
