use Rattle.std.proofs.Common.{◌∙◌, sym}
use Rattle.pipe_model.specs.Typing.{is_row_wise}
use Rattle.pipe_aggs.proofs.QueryFacts.{key_exprs_are}
use Rattle.pipe_aggs.proofs.sound.has_row_wise_keys.Goals as goal

pub returns : goal.returns
returns c = rw (c.deref.ensures.value, c.requires) at c.are_row_wise.ensures ∙ sym (key_exprs_are c.args.query.now is_row_wise)
