use Rattle.std.proofs.Common.{◌∙◌, refl}
use Rattle.pipe_model.specs.Typing.{knows_columns}
use Rattle.pipe_aggs.proofs.QueryFacts.{both_hold}
use Rattle.pipe_aggs.proofs.sound.all_know_columns.Goals as goal

pub returns-then-know_columns : goal.returns-then-know_columns
returns-then-know_columns c =
    let keys = rw (c.deref.ensures.value, c.requires) at c.know_columns.ensures in
    let aggs = rw (c.deref-then-know_columns.ensures.value, c.requires) at c.know_columns-then-know_columns.ensures in
    rw c.if-know_columns.true at (both_hold c.args.query.now (λ e. knows_columns e c.args.query.now.schema) c.know_columns.result c.know_columns-then-know_columns.result keys aggs)

pub returns-else-know_columns : goal.returns-else-know_columns
returns-else-know_columns c =
    let keys = rw (c.deref.ensures.value, c.requires) at c.know_columns.ensures in
    c.if-know_columns.false ∙ rw c.if-know_columns.false at (both_hold c.args.query.now (λ e. knows_columns e c.args.query.now.schema) c.know_columns.result _ keys refl)
