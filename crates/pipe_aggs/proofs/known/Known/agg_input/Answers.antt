use Rattle.std.proofs.Common.{◌≡◌, rules}
use Rattle.std.specs.Prelude.{Some, slice_get}
use Rattle.pipe_exprs.specs.declared.expression.AExpr.TheVariants as ax
use Rattle.pipe_aggs.proofs.KnownFacts.{input_there}
use Rattle.pipe_aggs.proofs.known.Known.agg_input.Goals as goal

pub returns-in-Some-Agg-clause-there : goal.returns-in-Some-Agg-clause-there
returns-in-Some-Agg-clause-there c =
    let found : Some (ax.Agg c.in-Some-Agg.agg) ≡ slice_get c.args.self.now.exprs c.unaliased.result.0 = search rules in
    let there = input_there c.args.self.now.exprs c.unaliased.result c.in-Some-Agg.agg c.expr.ensures.earlier found in
    rw c.input.ensures there
