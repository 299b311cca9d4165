use Rattle.std.proofs.Common.{◌∙◌, sym}
use Rattle.pipe_model.specs.Convertible.{unaliased}
use Rattle.pipe_aggs.specs.Faults.{adds_dates}
use Rattle.pipe_aggs.proofs.QueryFacts.{any_agg_is}
use Rattle.pipe_aggs.proofs.sound.has_sum_of_dates.Goals as goal

pub returns : goal.returns
returns c = rw (c.deref.ensures.value, c.requires) at c.add_dates.ensures ∙ sym (any_agg_is c.args.query.now (λ e. adds_dates c.args.query.now.schema (unaliased e)))
