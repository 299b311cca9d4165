use Rattle.std.proofs.Common.{◌≡◌, ◌∙◌, List, map, ap, arith, take_all}
use Rattle.pipe_columns.specs.Frame.{all_have_height, ColumnData, unsorted}
use Rattle.pipe_groups.proofs.FrameFacts.{is_there}
use Rattle.pipe_asked.proofs.ByPlace.{unsorted-high}
use Rattle.pipe_asked.proofs.stacking.copied.Goals as goal

pub unwrap-requires : goal.unwrap-requires
unwrap-requires c =
    let all : List ColumnData = c.columns-all.result.now in
    let columns : c.loop-column.columns.items ≡ map unsorted all = c.loop-column.invariant ∙ ap (map unsorted) (take_all c.loop-column.column-index all (omega (arith, c.loop-column-test.false))) in
    is_there c.new.result (all_have_height c.height.result c.loop-column.columns.items) c.new.ensures.none
    (ap (all_have_height c.height.result) columns
    ∙ unsorted-high c.height.result all
    ∙ ap (λ n. all_have_height n all) c.height.ensures.height
    ∙ ap (all_have_height c.args.frame.now.height) c.columns-all.ensures.columns
    ∙ c.columns-all.ensures.height)
