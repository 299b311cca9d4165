use Rattle.std.proofs.Common.{◌+◌, ◌++◌, ◌∷◌, [], ℕ, Bool, List, get_or, take, sym, subst}
use Rattle.std.proofs.lemmas.List.{take_more}
use Rattle.pipe_columns.specs.declared.any_value.AnyValue.{AnyValue}
use Rattle.pipe_columns.specs.Frame.{row_at}
use Rattle.lavzimo_rows.specs.declared.by_column.RankedRow.{RankedRow}
use Rattle.lavzimo_rows.specs.Columns.{is_mean, shown_value}
use Rattle.lavzimo_rows.specs.Ranks.{AreRanked}
use Rattle.lavzimo_rows.proofs.RankFacts.{ranked_more}
use Rattle.lavzimo_rows.proofs.by_column.rank_rows.Goals as goal

pub loop-row-preserved : goal.loop-row-preserved
loop-row-preserved c =
    let rows : List ℕ = c.args.rows.now in
    let i : ℕ = c.loop-row.row-index in
    let mean : Bool = is_mean c.args.shows in
    let value : ℕ → AnyValue = λ n. shown_value c.args.shows (row_at c.args.columns.now n) in
    let ranked : RankedRow = record { rank = c.rank_at-rank.result; row = get_or rows i 0 } in
    let more : AreRanked mean value (take i rows ++ get_or rows i 0 ∷ []) (c.loop-row.ranked.items ++ ranked ∷ []) =
    ranked_more mean value (take i rows) c.loop-row.ranked.items ranked c.loop-row.invariant c.rank_at-rank.ensures in
    let numbers : AreRanked mean value (take (i + 1) rows) (c.loop-row.ranked.items ++ ranked ∷ []) =
    subst (λ (ns : List ℕ). AreRanked mean value ns (c.loop-row.ranked.items ++ ranked ∷ [])) (sym (take_more rows i 0 c.loop-row-test.true)) more in
    subst (λ (rs : List RankedRow). AreRanked mean value (take (i + 1) rows) rs) (sym c.in_ok-push.ensures.items) numbers
