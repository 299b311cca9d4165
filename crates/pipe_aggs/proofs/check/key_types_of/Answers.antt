use Rattle.std.proofs.Common.{◌≡◌, ◌∙◌, arith, take}
use Rattle.std.proofs.lemmas.Grind.{common_steps}
use Rattle.pipe_aggs.proofs.QueryFacts.{key_types_are}
use Rattle.pipe_aggs.proofs.check.key_types_of.Goals as goal

pub returns : goal.returns
returns c =
    let all : take c.loop-key.key-index c.args.query.now.keys.items ≡ c.args.query.now.keys.items = grind (arith, common_steps) in
    rw all at c.loop-key.invariant ∙ key_types_are c.args.query.now c.args.known.now c.requires
