use Rattle.std.proofs.Common.{◌∙◌, ℕ, map, ap}
use Rattle.pipe_columns.specs.declared.any_value.AnyValue.{AnyValue}
use Rattle.pipe_columns.specs.Frame.{row_at}
use Rattle.lavzimo_rows.specs.declared.by_column.RankedRow.{RankedRow}
use Rattle.lavzimo_rows.specs.Columns.{is_mean, shown_value}
use Rattle.lavzimo_rows.proofs.RankFacts.{ranked_order}
use Rattle.lavzimo_rows.proofs.by_column.rows_by_column.Goals as goal

pub returns : goal.returns
returns c =
    let value : ℕ → AnyValue = λ i. shown_value c.args.shows (row_at c.args.columns.now i) in
    c.in_ok-order.ensures ∙ ap (map (λ (r : RankedRow). r.row)) (c.deref.ensures.value ∙ c.in_ok-sort_by_rank.ensures)
    ∙ ranked_order (is_mean c.args.shows) value c.args.rows.now c.in_ok-ranked.ranked.items c.args.descending c.in_ok-ranked.ensures
