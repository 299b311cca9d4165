use Rattle.std.proofs.Common.{◌∙◌, ℕ, map, ap}
use Rattle.pipe_columns.specs.Frame.{row_at}
use Rattle.pipe_lines.specs.Rows.{Row}
use Rattle.lavzimo_rows.specs.Shown.{limited}
use Rattle.lavzimo_rows.proofs.ShownFacts.{map-limited}
use Rattle.lavzimo_rows.proofs.order.shown_rows.Goals as goal

pub returns : goal.returns
returns c =
    let line : ℕ → Row = row_at c.args.frame.now.columns in
    ap (map line) c.limit_rows.ensures ∙ map-limited line c.offset.result c.limit.result c.in_ok-rows.rows.items
    ∙ (λ i. limited (c.offset.ensures i) (c.limit.ensures i) (c.in_ok-rows.ensures i))
