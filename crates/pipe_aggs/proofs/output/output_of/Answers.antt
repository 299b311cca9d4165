use Rattle.std.proofs.Common.{◌≡◌, ◌∙◌, arith, take}
use Rattle.std.proofs.lemmas.Grind.{common_steps}
use Rattle.pipe_aggs.proofs.OutputFacts.{output_is}
use Rattle.pipe_aggs.proofs.output.output_of.Goals as goal

pub returns : goal.returns
returns c =
    let all : take c.loop-agg.agg-index c.args.query.now.aggs.items ≡ c.args.query.now.aggs.items = grind (arith, common_steps) in
    c.new.ensures ∙ rw all at c.loop-agg.invariant ∙ output_is c.args.query.now c.args.known.now c.requires
