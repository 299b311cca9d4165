use Rattle.std.proofs.Common.{◌∙◌, ℕ, List, ap, is_lt, rules}
use Rattle.std.specs.Cmp.{IsStrictWeakOrder}
use Rattle.std.specs.declared.cmp.Ordering.{Ordering}
use Rattle.std.proofs.lemmas.Fn.{always_returns_same}
use Rattle.std.proofs.lemmas.List.Sorted.{ranks_by}
use Rattle.pipe_columns.specs.Frame.{ColumnData, row_at}
use Rattle.pipe_columns.proofs.ValueOrder.{tuples_total}
use Rattle.pipe_model.specs.Answer.{tuple_cmp}
use Rattle.lavzimo_rows.specs.StableOrder.{in_order}
use Rattle.lavzimo_rows.proofs.OrderFacts.{sorted_is}
use Rattle.lavzimo_rows.proofs.by_key.rows_by_key.Goals as goal

pub returns : goal.returns
returns c =
    let keys : List ColumnData = c.args.keys.now in
    let order : ℕ → ℕ → Ordering = λ a b. tuple_cmp (row_at keys a) (row_at keys b) in
    let weak : IsStrictWeakOrder (λ (a b : ℕ). is_lt (tuple_cmp (row_at keys a) (row_at keys b))) = ranks_by tuples_total (λ (i : ℕ). row_at keys i) in
    let sort = c.in_ok-sort_by.ensures in
    sorted_is order weak _ _ (sort.sorted (λ a b. is_lt (order a b)) weak (always_returns_same _ _ _ (λ a r f k. search rules)))
    (sort.stable (λ a b. is_lt (order a b)) weak (always_returns_same _ _ _ (λ a r f k. search rules)))
    ∙ ap (in_order order) c.in_ok-rows.ensures
