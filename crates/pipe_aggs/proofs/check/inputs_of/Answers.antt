use Rattle.std.proofs.Common.{◌≡◌, ◌∙◌, ap, arith, map, subst, sym, take}
use Rattle.std.specs.List.{All}
use Rattle.std.proofs.lemmas.Grind.{common_steps}
use Rattle.pipe_aggs.specs.HashAggs.{input_of, IsThere}
use Rattle.pipe_aggs.proofs.InputFacts.{inputs_are}
use Rattle.pipe_aggs.proofs.check.inputs_of.Goals as goal

pub returns-clause-fed : goal.returns-clause-fed
returns-clause-fed c =
    let all : take c.loop-agg.agg-index c.args.query.now.aggs.items ≡ c.args.query.now.aggs.items = grind (arith, common_steps) in
    let same : c.args.query.now.arena ≡ c.args.known.now.exprs = sym (ap (λ k. k.exprs) c.requires) in
    ap (λ es. map (input_of es) c.loop-agg.inputs.items) same ∙ rw all at c.loop-agg.invariant.fed ∙ inputs_are c.args.query.now c.args.known.now c.requires

pub returns-clause-there : goal.returns-clause-there
returns-clause-there c =
    subst (λ es. All (IsThere es) c.loop-agg.inputs.items) (ap (λ k. k.exprs) c.requires) c.loop-agg.invariant.there
