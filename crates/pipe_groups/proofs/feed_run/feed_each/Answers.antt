use Rattle.std.proofs.Common.{length, ap, arith}
use Rattle.pipe_kinds.specs.ManyStates.{ManyStates}
use Rattle.pipe_groups.proofs.EachFacts.{each-count, each-end, each-next, each-start}
use Rattle.pipe_groups.proofs.RunFacts.{fed-few, fed-plain, fed-takes}
use Rattle.pipe_groups.proofs.feed_run.feed_each.Goals as goal

pub loop-at-init : goal.loop-at-init
loop-at-init c = each-start _ _ _ _ _ _ _ c.requires.plain c.requires.taken c.requires.few

pub feed_lent-requires-clause-within : goal.feed_lent-requires-clause-within
feed_lent-requires-clause-within c = omega (arith, c.requires.within, each-count _ _ _ _ _ _ _ _ _ c.loop-at.invariant)

pub feed_lent-requires-clause-there : goal.feed_lent-requires-clause-there
feed_lent-requires-clause-there c = omega (arith, c.requires.column, ap (λ (m : ManyStates). length m.fresh) c.loop-at.invariant.others)

pub feed_lent-requires-clause-taken : goal.feed_lent-requires-clause-taken
feed_lent-requires-clause-taken c = rw c.input.ensures (fed-takes _ _ _ _ _ _ _ _ c.loop-at.invariant.fed c.loop-at-test.true c.requires.there)

pub feed_lent-requires-clause-few : goal.feed_lent-requires-clause-few
feed_lent-requires-clause-few c = fed-few _ _ _ _ _ _ _ _ c.loop-at.invariant.fed c.loop-at-test.true c.requires.there

pub feed_lent-requires-clause-plain : goal.feed_lent-requires-clause-plain
feed_lent-requires-clause-plain c = rw c.input.ensures (fed-plain _ _ _ _ _ _ _ _ c.loop-at.invariant.fed c.loop-at-test.true c.requires.there)

pub loop-at-preserved : goal.loop-at-preserved
loop-at-preserved c = each-next _ _ _ _ _ _ _ _ _ c.loop-at.invariant c.loop-at-test.true c.requires.there c.requires.within c.requires.state _ (rw c.input.ensures at c.feed_lent.ensures)

pub returns : goal.returns
returns c = each-end _ _ _ _ _ _ _ _ _ c.loop-at.invariant c.loop-at-test.false
