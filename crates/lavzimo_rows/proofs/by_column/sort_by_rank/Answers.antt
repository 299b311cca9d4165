use Rattle.std.proofs.Common.{Bool, is_lt, rules}
use Rattle.std.specs.Cmp.{IsStrictWeakOrder}
use Rattle.std.specs.declared.cmp.Ordering.{Ordering}
use Rattle.std.proofs.lemmas.Fn.{always_returns_same}
use Rattle.std.proofs.lemmas.List.Sorted.{ranks_by}
use Rattle.std.proofs.lemmas.Result.{on_ok_weaker}
use Rattle.lavzimo_rows.specs.declared.by_column.RankedRow.{RankedRow}
use Rattle.lavzimo_rows.specs.Ranks.{rank_cmp}
use Rattle.lavzimo_rows.specs.Shown.{turned}
use Rattle.lavzimo_rows.proofs.OrderFacts.{sorted_is}
use Rattle.lavzimo_rows.proofs.RankFacts.{ranks_total, turned_total}
use Rattle.lavzimo_rows.proofs.by_column.sort_by_rank.Goals as goal

pub returns : goal.returns
returns c =
    let descending : Bool = c.args.descending in
    let order : RankedRow → RankedRow → Ordering = λ a b. turned descending (rank_cmp a.rank b.rank) in
    let weak : IsStrictWeakOrder (λ (a b : RankedRow). is_lt (turned descending (rank_cmp a.rank b.rank))) = ranks_by (turned_total rank_cmp descending ranks_total) (λ (r : RankedRow). r.rank) in
    on_ok_weaker c.sort_by.result
    (λ sorted. sorted_is order weak _ _ (sorted (λ a b. is_lt (order a b)) weak (always_returns_same _ _ _ (λ a r f k. search rules)))
    (c.sort_by.ensures.stable (λ a b. is_lt (order a b)) weak (always_returns_same _ _ _ (λ a r f k. search rules))))
    c.sort_by.ensures.sorted
