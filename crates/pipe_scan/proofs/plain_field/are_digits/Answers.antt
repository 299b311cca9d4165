use Rattle.std.proofs.Common.{arith}
use Rattle.std.proofs.lemmas.Bool.{eqb-true}
use Rattle.pipe_scan.specs.Stops.{is_no_digit}
use Rattle.pipe_scan.proofs.StopFacts.{seen}
use Rattle.pipe_scan.proofs.plain_field.are_digits.Goals as goal

pub returns-then-ahead-ne0 : goal.returns-then-ahead-ne0
returns-then-ahead-ne0 c = λ h.
    let s = seen is_no_digit c.args.text.now c.args.stops.now.low c.args.stops.now.others c.args.first c.requires.marked.others c.requires.low (omega (arith, c.if-ahead-ne0.true)) in
    rw (eqb-true _ _ h) at s
