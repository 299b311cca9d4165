use Rattle.std.proofs.Common.{◌-◌, arith}
use Rattle.pipe_chains.proofs.AlongFacts.{along-falls, along-found, along-next, no_link}
use Rattle.pipe_chains.proofs.link.along.Goals as goal

pub returns-then-link-lead : goal.returns-then-link-lead
returns-then-link-lead c =
    along-found _ _ c.args.links.now c.requires.linked c.args.lead c.args.told c.loop-told.told (c.loop-told.told - 1) c.loop-told.invariant (omega arith) no_link c.if-link-lead.true

pub loop-told-smaller : goal.loop-told-smaller
loop-told-smaller c =
    let falls = along-falls _ _ c.args.links.now c.requires.linked c.args.lead c.args.told c.loop-told.told (c.loop-told.told - 1) c.loop-told.invariant (omega arith) no_link in
    omega (arith, falls)

pub loop-told-preserved : goal.loop-told-preserved
loop-told-preserved c =
    along-next _ _ c.args.links.now c.requires.linked c.args.lead c.args.told c.loop-told.told (c.loop-told.told - 1) c.loop-told.invariant (omega arith) no_link c.if-link-lead.false
