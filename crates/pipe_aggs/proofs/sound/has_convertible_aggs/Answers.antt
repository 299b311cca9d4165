use Rattle.std.proofs.Common.{◌∙◌, sym}
use Rattle.pipe_model.specs.Convertible.{convertible}
use Rattle.pipe_aggs.proofs.QueryFacts.{agg_exprs_are}
use Rattle.pipe_aggs.proofs.sound.has_convertible_aggs.Goals as goal

pub returns : goal.returns
returns c = rw (c.deref.ensures.value, c.requires) at c.are_convertible.ensures ∙ sym (agg_exprs_are c.args.query.now (λ e. convertible e c.args.query.now.schema))
