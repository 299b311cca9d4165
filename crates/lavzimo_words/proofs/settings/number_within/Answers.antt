use Rattle.std.proofs.Common.{arith}
use Rattle.lavzimo_words.proofs.NumberFacts.{within-none, within-some}
use Rattle.lavzimo_words.proofs.settings.number_within.Goals as goal

pub returns-in-Ok : goal.returns-in-Ok
returns-in-Ok c = within-some c.args.low c.args.high c.args.text.now c.in-Ok.number c.in-Ok.ensures.value.0 c.if-low-number.true c.if-number-high.true

pub returns-in-Err : goal.returns-in-Err
returns-in-Err c = within-none c.args.low c.args.high c.args.text.now c.in-Err.ensures.value.0 (omega (arith, c.ranges.high.fits))
