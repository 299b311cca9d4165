use Rattle.std.proofs.Common.{◌≡◌, ◌∙◌, arith, take}
use Rattle.std.proofs.lemmas.Grind.{common_steps}
use Rattle.pipe_aggs.proofs.InputFacts.{prototypes_are}
use Rattle.pipe_aggs.proofs.check.prototypes_of.Goals as goal

pub returns : goal.returns
returns c =
    let all : take c.loop-agg.agg-index c.args.query.now.aggs.items ≡ c.args.query.now.aggs.items = grind (arith, common_steps) in
    rw all at c.loop-agg.invariant ∙ prototypes_are c.args.query.now c.args.known.now c.requires
