use Rattle.std.proofs.Common.{◌∙◌, sym, subst, ap}
use Rattle.std.proofs.lemmas.Option.{unwrap_or-slice_get}
use Rattle.pipe_aggs.specs.CheckedQuery.{input_types}
use Rattle.pipe_aggs.specs.QueryTrees.{query_tree}
use Rattle.pipe_inputs.specs.ChunkRows.{no_row, row_at}
use Rattle.pipe_model.specs.Output.{key_types}
use Rattle.pipe_model.specs.Query.{QueryTree}
use Rattle.pipe_spill.specs.SpillRow.{HasValues, spilled}
use Rattle.pipe_spill.proofs.SpilledRows.{spilled_is_row}
use Rattle.pipe_groups.specs.Shape.{Shape}
use Rattle.pipe_tables.specs.Buffers.{is_taken_lent}
use Rattle.pipe_tables.specs.LocalTable.{local_with_row}
use Rattle.test_tables.proofs.tables.local.take.Goals as goal

pub insert-requires-clause-typed : goal.insert-requires-clause-typed
insert-requires-clause-typed c =
    let q : QueryTree = query_tree c.args.query.now in
    let x = row_at c.args.rows.now c.args.row in
    let typed : HasValues (key_types q) (input_types q) x = subst (HasValues (key_types q) (input_types q)) (sym (unwrap_or-slice_get c.args.rows.now c.args.row no_row)) (c.requires.typed c.args.row no_row c.requires.there) in
    rw c.requires.shape (spilled_is_row (key_types q) (input_types q) x typed)

pub returns-in_ok-push-in-Done : goal.returns-in_ok-push-in-Done
returns-in_ok-push-in-Done c =
    c.insert.ensures (ap is_taken_lent c.in-Done.is)
    ∙ ap (λ (h : Shape). local_with_row (spilled h.key_types (row_at c.args.rows.now c.args.row)) c.args.table.now) c.requires.shape

pub returns-in_ok-push-in-Payload : goal.returns-in_ok-push-in-Payload
returns-in_ok-push-in-Payload c =
    c.insert.ensures (ap is_taken_lent c.in-Payload.is)
    ∙ ap (λ (h : Shape). local_with_row (spilled h.key_types (row_at c.args.rows.now c.args.row)) c.args.table.now) c.requires.shape
