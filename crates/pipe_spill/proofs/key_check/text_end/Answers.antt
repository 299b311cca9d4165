-- What stands at each place, and what is known there.
use Rattle.std.proofs.Common.{arith}
use Rattle.pipe_spill.proofs.TextEnd.{byte_scanned, end_scanned, last_scanned, mark_scanned, zero_scanned}
use Rattle.pipe_spill.proofs.key_check.text_end.Goals as goal

pub returns-in-0-eq0-clause-text : goal.returns-in-0-eq0-clause-text
returns-in-0-eq0-clause-text c =
    end_scanned c.args.body.now c.loop-at.at c.loop-at.invariant c.loop-at-test.true c.in-0-eq0.is-0 c.in-0-eq0.is-1

pub loop-at-preserved-in-0-eq1 : goal.loop-at-preserved-in-0-eq1
loop-at-preserved-in-0-eq1 c =
    zero_scanned c.args.body.now c.loop-at.at c.loop-at.invariant c.loop-at-test.true c.in-0-eq1.is-0 c.in-0-eq1.is-1

pub returns-in-0-default-clause-none : goal.returns-in-0-default-clause-none
returns-in-0-default-clause-none c = λ h.
    mark_scanned c.args.body.now c.loop-at.at c.loop-at.invariant c.loop-at-test.true c.in-0-default.is-0 c.in-0-default.is-1.0.1 c.in-0-default.is-1.1

pub loop-at-preserved : goal.loop-at-preserved
loop-at-preserved c =
    byte_scanned c.args.body.now c.loop-at.at c.loop-at.invariant (omega arith) c.in_default.is-0.1

pub returns-clause-none : goal.returns-clause-none
returns-clause-none c = λ h. last_scanned c.args.body.now c.loop-at.at c.loop-at.invariant (omega arith)
