use Rattle.std.proofs.Common.{◌∙◌, refl}
use Rattle.std.specs.Prelude.{is_some}
use Rattle.pipe_model.specs.Typing.{type_of}
use Rattle.pipe_aggs.proofs.QueryFacts.{both_hold}
use Rattle.pipe_aggs.proofs.sound.all_have_types.Goals as goal

pub returns-then-have_types : goal.returns-then-have_types
returns-then-have_types c =
    let keys = rw (c.deref.ensures.value, c.requires) at c.have_types.ensures in
    let aggs = rw (c.deref-then-have_types.ensures.value, c.requires) at c.have_types-then-have_types.ensures in
    rw c.if-have_types.true at (both_hold c.args.query.now (λ e. is_some (type_of e c.args.query.now.schema)) c.have_types.result c.have_types-then-have_types.result keys aggs)

pub returns-else-have_types : goal.returns-else-have_types
returns-else-have_types c =
    let keys = rw (c.deref.ensures.value, c.requires) at c.have_types.ensures in
    c.if-have_types.false ∙ rw c.if-have_types.false at (both_hold c.args.query.now (λ e. is_some (type_of e c.args.query.now.schema)) c.have_types.result _ keys refl)
