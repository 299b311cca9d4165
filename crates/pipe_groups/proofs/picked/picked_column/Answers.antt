use Rattle.std.proofs.Common.{◌≡◌, ◌∙◌, ℕ, true, List, map, ap, arith, take_all}
use Rattle.pipe_columns.specs.declared.any_value.AnyValue.{AnyValue}
use Rattle.pipe_columns.specs.declared.data_type.DataType.{DataType}
use Rattle.pipe_columns.specs.Frame.{all_fit, value_at}
use Rattle.pipe_groups.proofs.FrameFacts.{is_there}
use Rattle.pipe_groups.proofs.PlaceOrder.{picked-fit}
use Rattle.pipe_groups.proofs.picked.picked_column.Goals as goal

pub unwrap-requires : goal.unwrap-requires
unwrap-requires c =
    let rows : List ℕ = c.args.rows.now in
    let all : List AnyValue = c.values-all.result.now in
    let values : c.loop-row.values.items ≡ map (λ i. value_at all i) rows =
    c.loop-row.invariant ∙ ap (map (λ (i : ℕ). value_at all i)) (take_all c.loop-row.row-index rows (omega (arith, c.loop-row-test.false))) in
    let fit : all_fit c.dtype.result all ≡ true =
    ap (λ (t : DataType). all_fit t all) c.dtype.ensures ∙ ap (all_fit c.args.column.now.dtype) c.values-all.ensures.values ∙ c.values-all.ensures.fit in
    is_there c.new.result (all_fit c.dtype.result c.loop-row.values.items) c.new.ensures.none
    (ap (all_fit c.dtype.result) values ∙ picked-fit c.dtype.result all rows fit)
