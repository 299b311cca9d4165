use Rattle.std.proofs.Common.{◌∙◌}
use Rattle.std.proofs.lemmas.Result.{IfOk-weaker}
use Rattle.pipe_columns.specs.Frame.{fields_of}
use Rattle.pipe_exprs.specs.Trees.{trees}
use Rattle.pipe_exprs.proofs.PassFacts.{types_known}
use Rattle.pipe_exprs.proofs.types.node_types.Goals as goal

pub returns : goal.returns
returns c =
    let known = types_known (fields_of c.args.columns.now) c.deref.result.now (trees c.args.arena.now)
    c.deref-2.result.now (c.deref.ensures.value ∙ c.in_ok-fields.ensures) (c.deref-2.ensures.value ∙ c.in_ok-facts.ensures) in
    IfOk-weaker c.dtypes_in.result _ _ (λ types is. is ∙ known) c.dtypes_in.ensures
