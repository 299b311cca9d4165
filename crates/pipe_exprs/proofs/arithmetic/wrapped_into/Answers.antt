use Rattle.std.proofs.Common.{rules, inl, inr}
use Rattle.std.specs.Int.{w8, w16, w32, w64}
use Rattle.pipe_exprs.proofs.NumberFacts.{wrapped_is}
use Rattle.pipe_exprs.proofs.arithmetic.wrapped_into.Goals as goal

pub returns-in-Int8 : goal.returns-in-Int8
returns-in-Int8 c = rw c.in-Int8.is (wrapped_is w8 c.args.number c.rem_euclid.result c.cast_signed.result c.ranges.number (search rules) (search rules) (search rules) c.rem_euclid.ensures.value c.cast_signed.ensures)

pub returns-in-Int16 : goal.returns-in-Int16
returns-in-Int16 c = rw c.in-Int16.is (wrapped_is w16 c.args.number c.rem_euclid-in-Int16.result c.cast_signed-in-Int16.result c.ranges.number (search rules) (search rules) (search rules) c.rem_euclid-in-Int16.ensures.value c.cast_signed-in-Int16.ensures)

pub returns-in-Int32 : goal.returns-in-Int32
returns-in-Int32 c =
    let same = wrapped_is w32 c.args.number c.rem_euclid-in-Int32.result c.cast_signed-in-Int32.result c.ranges.number (search rules) (search rules) (search rules) c.rem_euclid-in-Int32.ensures.value c.cast_signed-in-Int32.ensures in
    elim c.in-Int32.is [ inl e ↦ rw e same | inr e ↦ rw e same ]

pub returns-in-Int64 : goal.returns-in-Int64
returns-in-Int64 c = rw c.in-Int64.is (wrapped_is w64 c.args.number c.rem_euclid-in-Int64.result c.cast_signed-in-Int64.result c.ranges.number (search rules) (search rules) (search rules) c.rem_euclid-in-Int64.ensures.value c.cast_signed-in-Int64.ensures)
