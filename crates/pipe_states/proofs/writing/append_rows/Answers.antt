use Rattle.std.proofs.Common.{rules, arith, ◌≡◌, ◌∙◌, ◌++◌, List, [], drop, map, ap, sym, subst}
use Rattle.std.proofs.lemmas.List.{append-nil, drop_all}
use Rattle.std.proofs.lemmas.List.Elements.{All-get_or}
use Rattle.pipe_aggs.specs.QueryTrees.{query_tree}
use Rattle.pipe_model.specs.Query.{QueryTree}
use Rattle.pipe_spill.specs.FrameBytes.{row_bytes, rows_bytes}
use Rattle.pipe_states.specs.Fair.{IsRowOf}
use Rattle.pipe_states.specs.StateText.{saved_row, state_types}
use Rattle.pipe_states.specs.declared.state_row.StateRow.{StateRow}
use Rattle.pipe_states.proofs.Appending.{state_row_written}
use Rattle.pipe_states.proofs.writing.append_rows.Goals as goal

pub append_row-requires : goal.append_row-requires
append_row-requires c =
    let q : QueryTree = query_tree c.args.query.now in
    let rows : List StateRow = c.args.rows.now in
    let r : StateRow = c.row-item.result in
    subst (IsRowOf q) (sym c.row-item.is) (All-get_or (IsRowOf q) rows c.loop-row.row-index r (omega (arith, c.loop-row-test.true)) c.requires)

pub loop-row-preserved : goal.loop-row-preserved
loop-row-preserved c =
    let q : QueryTree = query_tree c.args.query.now in
    let rows : List StateRow = c.args.rows.now in
    let r : StateRow = c.row-item.result in
    let wrote : c.append_row.new.text.items ≡ c.loop-row.text.items ++ row_bytes (state_types q) (saved_row q r) = search rules in
    state_row_written q rows c.loop-row.row-index r c.loop-row.text.items c.append_row.new.text.items (c.args.text.now.items ++ rows_bytes (state_types q) (map (saved_row q) rows))
    c.loop-row-test.true c.row-item.is c.loop-row.invariant wrote

pub returns : goal.returns
returns c =
    let q : QueryTree = query_tree c.args.query.now in
    let rows : List StateRow = c.args.rows.now in
    let end : drop c.loop-row.row-index rows ≡ [] = drop_all c.loop-row.row-index rows (omega (arith, c.loop-row-test.false)) in
    sym (append-nil c.loop-row.text.items)
    ∙ ap (λ (l : List StateRow). c.loop-row.text.items ++ rows_bytes (state_types q) (map (saved_row q) l)) (sym end)
    ∙ c.loop-row.invariant
