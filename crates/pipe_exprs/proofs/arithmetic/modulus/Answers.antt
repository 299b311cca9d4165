use Rattle.std.proofs.Common.{rules, arith}
use Rattle.std.proofs.lemmas.Int.{ints}
use Rattle.pipe_exprs.proofs.NumberFacts.{modulus_is}
use Rattle.pipe_exprs.proofs.arithmetic.modulus.Goals as goal

pub returns-else-b-gt0 : goal.returns-else-b-gt0
returns-else-b-gt0 c =
    modulus_is c.args.dtype c.args.a c.args.b c.rem_euclid-else-b-gt0.result c.wrapped_into-else-b-gt0.result c.requires.short_a c.requires.short_b c.if-b-eq0.false c.if-b-gt0.false
    c.rem_euclid-else-b-gt0.ensures.upper_bound c.rem_euclid-else-b-gt0.ensures.value (search rules) c.wrapped_into-else-b-gt0.ensures

pub rem_euclid-requires-else-b-gt0-clause-nonzero : goal.rem_euclid-requires-else-b-gt0-clause-nonzero
rem_euclid-requires-else-b-gt0-clause-nonzero c = search rules

pub rem_euclid-requires-clause-no_overflow : goal.rem_euclid-requires-clause-no_overflow
rem_euclid-requires-clause-no_overflow c = λ p q. omega (arith, ints)

pub rem_euclid-requires-else-b-gt0-clause-no_overflow : goal.rem_euclid-requires-else-b-gt0-clause-no_overflow
rem_euclid-requires-else-b-gt0-clause-no_overflow c = λ p q. omega (arith, ints)

pub overflow_sub-rem_euclid : goal.overflow_sub-rem_euclid
overflow_sub-rem_euclid c = omega (arith, ints)

pub returns-then-b-gt0 : goal.returns-then-b-gt0
returns-then-b-gt0 c = search rules
