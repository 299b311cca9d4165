use Rattle.std.proofs.Common.{◌≡◌, ◌∙◌, ◌+◌, ◌<◌, List, [], ap, sym, subst, arith, length}
use Rattle.std.proofs.lemmas.Option.{unwrap_or-slice_get}
use Rattle.std.proofs.lemmas.List.Elements.{All-nil, All-push}
use Rattle.pipe_columns.specs.declared.data_type.DataType.{DataType}
use Rattle.pipe_aggs.specs.CheckedQuery.{input_types}
use Rattle.pipe_aggs.specs.QueryTrees.{query_tree}
use Rattle.pipe_inputs.specs.ChunkRows.{no_row, row_at}
use Rattle.pipe_model.specs.Output.{key_types}
use Rattle.pipe_spill.specs.SpillRow.{AreRows, HasValues, IsRow, spilled}
use Rattle.pipe_spill.specs.declared.spill_row.SpillRow.{SpillRow}
use Rattle.pipe_spill.proofs.SpilledRows.{spilled_is_row}
use Rattle.pipe_waiting.specs.ReadRows.{read_rows}
use Rattle.pipe_waiting.specs.Waiting.{waiting_rows}
use Rattle.merge_times.proofs.waits.push_all.Goals as goal

pub loop-row-init : goal.loop-row-init
loop-row-init c =
    let keys : List DataType = key_types (query_tree c.args.query.now) in
    let types : List DataType = input_types (query_tree c.args.query.now) in
    let none : waiting_rows types c.args.waiting.now ≡ [] = ap (λ n. read_rows types n c.args.waiting.now.bytes) c.requires.none in
    (c.requires.held, subst (AreRows keys types) (sym none) (All-nil (IsRow keys types)), c.requires.none)

pub loop-row-preserved : goal.loop-row-preserved
loop-row-preserved c =
    let keys : List DataType = key_types (query_tree c.args.query.now) in
    let types : List DataType = input_types (query_tree c.args.query.now) in
    let n = c.loop-row.row in
    let there : n < length c.args.rows.now = omega (arith, c.loop-row-test.true, c.len-row-end.ensures) in
    let x = row_at c.args.rows.now n in
    let typed : HasValues keys types x = subst (HasValues keys types) (sym (unwrap_or-slice_get c.args.rows.now n no_row)) (c.requires.typed n no_row there) in
    let e = c.in_ok-push_row.ensures in (
      e.typed c.loop-row.invariant.0,
      subst (AreRows keys types) (sym (e.rows c.loop-row.invariant.0))
          (All-push (IsRow keys types) (waiting_rows types c.loop-row.waiting) (spilled keys x) c.loop-row.invariant.1 (spilled_is_row keys types x typed)),
      e.count ∙ ap (λ m. m + 1) c.loop-row.invariant.2,
    )
