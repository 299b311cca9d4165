use Rattle.std.proofs.Common.{◌≡◌, ◌∙◌, List, length, map, ap, arith, take_all}
use Rattle.pipe_columns.specs.Frame.{all_have_height, ColumnData}
use Rattle.pipe_groups.specs.PlacedRanks.{picked}
use Rattle.pipe_groups.proofs.FrameFacts.{is_there}
use Rattle.pipe_groups.proofs.PlaceOrder.{picked-high}
use Rattle.pipe_groups.proofs.picked.picked.Goals as goal

pub unwrap-requires : goal.unwrap-requires
unwrap-requires c =
    let all : List ColumnData = c.columns-all.result.now in
    let columns : c.loop-column.columns.items ≡ map (picked c.args.rows.now) all =
    c.loop-column.invariant ∙ ap (map (picked c.args.rows.now)) (take_all c.loop-column.column-index all (omega (arith, c.loop-column-test.false))) in
    is_there c.new.result (all_have_height (length c.args.rows.now) c.loop-column.columns.items) c.new.ensures.none
    (ap (all_have_height (length c.args.rows.now)) columns ∙ picked-high all c.args.rows.now)
