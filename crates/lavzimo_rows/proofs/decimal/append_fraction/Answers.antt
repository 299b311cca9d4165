use Rattle.std.proofs.Common.{arith}
use Rattle.std.proofs.lemmas.Bool.Decides.{nat_tests}
use Rattle.lavzimo_rows.proofs.DecimalFacts.{digit_written, digits_ended, digits_written}
use Rattle.lavzimo_rows.proofs.decimal.append_fraction.Goals as goal

pub returns-then-rest-eq0 : goal.returns-then-rest-eq0
returns-then-rest-eq0 c = digits_written _ _ _ c.loop.rest c.loop.invariant.digits c.if-rest-eq0.true

pub loop-preserved : goal.loop-preserved
loop-preserved c = record {
  digits = digit_written _ c.loop.text.items _ c.loop.counter c.loop.rest c.loop.invariant.digits c.loop-test.true (grind (arith, nat_tests)) c.in_ok-push-2.ensures.items;
  rest = omega arith;
}

pub returns : goal.returns
returns c = digits_ended _ _ _ c.loop.rest c.loop.invariant.digits (omega arith)
