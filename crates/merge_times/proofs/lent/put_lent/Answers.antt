use Rattle.std.proofs.Common.{sym, subst}
use Rattle.std.proofs.lemmas.Option.{unwrap_or-slice_get}
use Rattle.pipe_aggs.specs.CheckedQuery.{input_types}
use Rattle.pipe_aggs.specs.QueryTrees.{query_tree}
use Rattle.pipe_inputs.specs.ChunkRows.{no_row, row_at}
use Rattle.pipe_model.specs.Output.{key_types}
use Rattle.pipe_model.specs.Query.{QueryTree}
use Rattle.pipe_spill.specs.SpillRow.{HasValues, IsRow, spilled}
use Rattle.pipe_spill.proofs.SpilledRows.{spilled_is_row}
use Rattle.pipe_groups.specs.Shape.{Shape}
use Rattle.pipe_tables.proofs.FewerFacts.{fewer-inserted}
use Rattle.merge_times.proofs.lent.put_lent.Goals as goal

pub returns-clause-few : goal.returns-clause-few
returns-clause-few c =
    let q : QueryTree = query_tree c.args.query.now in
    let x = row_at c.args.rows.now c.args.row in
    let typed : HasValues (key_types q) (input_types q) x = subst (HasValues (key_types q) (input_types q)) (sym (unwrap_or-slice_get c.args.rows.now c.args.row no_row)) (c.requires.typed c.args.row no_row c.requires.there) in
    let own : IsRow c.args.table.now.shape.key_types c.args.table.now.shape.input_types (spilled c.args.table.now.shape.key_types x) =
    subst (λ (s : Shape). IsRow s.key_types s.input_types (spilled s.key_types x)) (sym c.requires.shape) (spilled_is_row (key_types q) (input_types q) x typed) in
    let e = c.insert_lent.ensures in
    fewer-inserted c.args.table.now c.insert_lent.new.self (spilled c.args.table.now.shape.key_types x) c.insert_lent.result own (λ done. (e.done done).1) e.holds e.refused
