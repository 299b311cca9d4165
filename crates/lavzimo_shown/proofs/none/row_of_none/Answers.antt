use Rattle.std.proofs.Common.{◌≡◌, ◌∙◌, true, List, sym, ap}
use Rattle.std.proofs.lemmas.Bool.{false≢true}
use Rattle.pipe_columns.specs.Frame.{ColumnData, FrameData, all_have_height}
use Rattle.pipe_lines.specs.Rows.{frame_rows}
use Rattle.lavzimo_shown.specs.Showing.{row_of_none}
use Rattle.lavzimo_shown.proofs.NoneFacts.{ones-high, ones-rows}
use Rattle.lavzimo_shown.proofs.none.row_of_none.Goals as goal

pub unreachable-requires : goal.unreachable-requires
unreachable-requires c =
    let high : all_have_height 1 c.in_ok-ones.ones.items ≡ true = ap (all_have_height 1) c.in_ok-ones.ensures ∙ ones-high (row_of_none c.args.columns.now) in
    false≢true (sym c.in-None.ensures.none ∙ high)

pub returns : goal.returns
returns c =
    let made : List ColumnData → FrameData = λ columns. record { height = 1; columns = columns } in
    ap frame_rows c.in-Some.ensures.some ∙ ap (λ (columns : List ColumnData). frame_rows (made columns)) c.in_ok-ones.ensures ∙ ones-rows (row_of_none c.args.columns.now)
