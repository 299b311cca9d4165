-- What is read at each place is read of the whole.
use Rattle.std.proofs.Common.{◌+◌, drop, sym, ◌∙◌, arith}
use Rattle.std.proofs.lemmas.List.{take_rest}
use Rattle.pipe_spill.proofs.Escapes.{at_end, at_last, at_mark, at_zero, code_from_read, none_from_read}
use Rattle.pipe_spill.proofs.read_text.unescape.Goals as goal

pub returns-in-0-eq0-clause-code : goal.returns-in-0-eq0-clause-code
returns-in-0-eq0-clause-code c =
    rw (take_rest c.args.body.now (c.loop-at.at + 2))
    (code_from_read c.args.body.now c.loop-at.text.items (drop (c.loop-at.at + 2) c.args.body.now)
    (sym c.loop-at.invariant.same ∙ at_end c.loop-at.text.items c.args.body.now c.loop-at.at c.loop-at-test.true c.in-0-eq0.is-0 c.in-0-eq0.is-1))

pub loop-at-preserved-in-0-eq1 : goal.loop-at-preserved-in-0-eq1
loop-at-preserved-in-0-eq1 c = record {
  within = omega arith;
  same = rw c.in_ok-push-in-0-eq1.ensures.items
      (sym (at_zero c.loop-at.text.items c.args.body.now c.loop-at.at c.loop-at-test.true c.in-0-eq1.is-0 c.in-0-eq1.is-1) ∙ c.loop-at.invariant.same);
}

pub returns-in-0-default-clause-not_a_key : goal.returns-in-0-default-clause-not_a_key
returns-in-0-default-clause-not_a_key c = λ h. none_from_read c.args.body.now
    (sym c.loop-at.invariant.same ∙ at_mark c.loop-at.text.items c.args.body.now c.loop-at.at c.loop-at-test.true c.in-0-default.is-0 c.in-0-default.is-1.0.1 c.in-0-default.is-1.1)

pub returns-clause-not_a_key : goal.returns-clause-not_a_key
returns-clause-not_a_key c = λ h. none_from_read c.args.body.now
    (sym c.loop-at.invariant.same ∙ at_last c.loop-at.text.items c.args.body.now c.loop-at.at (omega arith))
