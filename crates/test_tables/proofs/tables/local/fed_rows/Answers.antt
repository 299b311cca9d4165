use Rattle.std.proofs.Common.{rules, ◌≡◌, ◌∙◌, ◌<◌, ◌≤◌, ◌+◌, ℕ, List, length, take, ap, sym, subst, refl, arith}
use Rattle.std.specs.Prelude.{All}
use Rattle.std.proofs.lemmas.List.{length-take}
use Rattle.std.proofs.lemmas.List.Elements.{All-take}
use Rattle.std.proofs.lemmas.List.FromFn.{length-map-range_with_len}
use Rattle.pipe_columns.specs.Row.{Row}
use Rattle.pipe_aggs.specs.CheckedQuery.{input_types}
use Rattle.pipe_aggs.specs.QueryTrees.{query_tree}
use Rattle.pipe_model.specs.Output.{key_types}
use Rattle.pipe_model.specs.Query.{QueryTree}
use Rattle.pipe_inputs.specs.ChunkRows.{row_at}
use Rattle.pipe_spill.specs.SpillRow.{HasValues, spilled}
use Rattle.pipe_spill.specs.declared.spill_row.SpillRow.{SpillRow}
use Rattle.pipe_groups.specs.Shape.{IsShape, shape_of}
use Rattle.pipe_plan.specs.declared.limits.Limits.{Limits}
use Rattle.pipe_tables.specs.After.{IsAfter, waiting_of}
use Rattle.pipe_tables.specs.LocalTable.{Local, local_with_row}
use Rattle.pipe_keyed.specs.Tables.{TakesOne}
use Rattle.pipe_tables.proofs.AfterFacts.{after-next, after-none, after-room}
use Rattle.test_tables.proofs.tables.local.fed_rows.Goals as goal

pub loop-row-init : goal.loop-row-init
loop-row-init c =
    let e = c.in_ok-table.ensures in
    after-none c.args.limits.now (shape_of (query_tree c.args.query.now)) c.in_ok-table.table c.requires.generic c.requires.limits.buffer e.shape e.limit e.groups e.size e.rows e.overflowed

-- there is room for one more row
room : (l : Limits) (q : QueryTree) (rows : List Row) (n : ℕ) (t : Local) → All (HasValues (key_types q) (input_types q)) rows → length rows ≤ 1000
    → IsAfter l (shape_of q) (take n rows) t → TakesOne t.table
room l q rows n t all few after =
    after-room l (shape_of q) (take n rows) t (All-take (HasValues (key_types q) (input_types q)) n rows all)
    (omega (arith, length-take n rows, few)) after

pub take-requires-clause-few : goal.take-requires-clause-few
take-requires-clause-few c = room c.args.limits.now (query_tree c.args.query.now) c.args.rows.now c.loop-row.row c.loop-row.table c.requires.typed c.requires.few c.loop-row.invariant

pub loop-row-preserved : goal.loop-row-preserved
loop-row-preserved c =
    let q : QueryTree = query_tree c.args.query.now in
    let rows : List Row = c.args.rows.now in
    let n = c.loop-row.row in
    let some : n < length rows = omega (arith, c.loop-row-test.true, c.len-row-end.ensures) in
    let shape : IsShape (shape_of q) = record { query = q; of_query = refl; groupable = c.query-query.ensures.groupable } in
    let made : c.take.new.table ≡ local_with_row (spilled (key_types q) (row_at rows n)) c.loop-row.table = search rules in
    subst (λ (t : Local). IsAfter c.args.limits.now (shape_of q) (take (n + 1) rows) t) (sym made)
    (after-next c.args.limits.now (shape_of q) rows n c.loop-row.table c.requires.generic c.requires.limits shape c.requires.typed some c.loop-row.invariant)

pub returns-clause-buffers : goal.returns-clause-buffers
returns-clause-buffers c =
    ap (λ (rows : List (List SpillRow)). length rows) c.loop-row.invariant.waits
    ∙ length-map-range_with_len (waiting_of c.args.limits.now (key_types (query_tree c.args.query.now)) (take c.loop-row.row c.args.rows.now)) 0 c.args.limits.now.partitions

pub returns-clause-room : goal.returns-clause-room
returns-clause-room c = room c.args.limits.now (query_tree c.args.query.now) c.args.rows.now c.loop-row.row c.loop-row.table c.requires.typed c.requires.few c.loop-row.invariant
