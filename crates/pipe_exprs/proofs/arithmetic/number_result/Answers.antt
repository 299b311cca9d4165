-- The numbers are short ones, so what is made of two of them has 128 bits.
use Rattle.std.proofs.Common.{rules, ◌≤◌, ◌^◌, arith}
use Rattle.std.specs.Int.{w128}
use Rattle.std.proofs.lemmas.Int.{ints, to_z-of_z}
use Rattle.pipe_exprs.proofs.NumberFacts.{number_short}
use Rattle.pipe_exprs.proofs.arithmetic.number_result.Goals as goal

pub overflow_add-a : goal.overflow_add-a
overflow_add-a c =
    let a = number_short c.args.dtype c.args.a c.requires.integer c.requires.fits_a in
    let b = number_short c.args.dtype c.args.b c.requires.integer c.requires.fits_b in
    omega (arith, ints, a, b)

pub overflow_sub-a : goal.overflow_sub-a
overflow_sub-a c =
    let a = number_short c.args.dtype c.args.a c.requires.integer c.requires.fits_a in
    let b = number_short c.args.dtype c.args.b c.requires.integer c.requires.fits_b in
    omega (arith, ints, a, b)

pub quotient-requires-clause-short_a : goal.quotient-requires-clause-short_a
quotient-requires-clause-short_a c = rw (to_z-of_z w128 c.args.a c.ranges.a) (number_short c.args.dtype c.args.a c.requires.integer c.requires.fits_a)

pub quotient-requires-clause-short_b : goal.quotient-requires-clause-short_b
quotient-requires-clause-short_b c = rw (to_z-of_z w128 c.args.b c.ranges.b) (number_short c.args.dtype c.args.b c.requires.integer c.requires.fits_b)

pub modulus-requires-clause-short_a : goal.modulus-requires-clause-short_a
modulus-requires-clause-short_a c = rw (to_z-of_z w128 c.args.a c.ranges.a) (number_short c.args.dtype c.args.a c.requires.integer c.requires.fits_a)

pub modulus-requires-clause-short_b : goal.modulus-requires-clause-short_b
modulus-requires-clause-short_b c = rw (to_z-of_z w128 c.args.b c.ranges.b) (number_short c.args.dtype c.args.b c.requires.integer c.requires.fits_b)

pub returns-in-Plus : goal.returns-in-Plus
returns-in-Plus c = search rules

pub returns-in-Minus : goal.returns-in-Minus
returns-in-Minus c = search rules
