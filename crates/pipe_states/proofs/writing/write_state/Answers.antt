use Rattle.std.proofs.Common.{rules, ◌≡◌, ◌++◌, List, length, map, refl, sym, subst}
use Rattle.std.specs.Prelude.{All}
use Rattle.std.specs.Int.{bytes_high_first}
use Rattle.pipe_aggs.specs.QueryTrees.{query_tree}
use Rattle.pipe_model.specs.Query.{QueryTree}
use Rattle.pipe_spill.specs.FrameBytes.{rows_bytes}
use Rattle.pipe_states.specs.Fair.{IsRowOf}
use Rattle.pipe_states.specs.StateText.{saved_row, state_types}
use Rattle.pipe_states.specs.declared.state_row.StateRow.{StateRow}
use Rattle.pipe_states.proofs.Texts.{written_state}
use Rattle.pipe_states.proofs.writing.write_state.Goals as goal

pub append_rows-requires : goal.append_rows-requires
append_rows-requires c = subst (All (IsRowOf (query_tree c.args.query.now))) (sym c.rows-rows.ensures.rows) c.requires

pub returns : goal.returns
returns c =
    let q : QueryTree = query_tree c.args.query.now in
    let rows : List StateRow = c.rows-rows.result.now in
    let head : c.in_ok-text.text.items ≡ bytes_high_first 4 c.first.result ++ bytes_high_first 4 c.end.result ++ bytes_high_first 8 (length rows) = search rules in
    let all : c.append_rows.new.text.items ≡ c.in_ok-text.text.items ++ rows_bytes (state_types q) (map (saved_row q) rows) = search rules in
    written_state q c.args.file.now c.first.result c.end.result (length rows) rows c.in_ok-text.text.items c.append_rows.new.text.items c.first.ensures.first c.end.ensures.end c.rows-rows.ensures.rows refl head all
