use Rattle.std.proofs.Common.{rules, ◌≡◌, ◌∙◌, ◌++◌, ap, drop, length, map, List, sym, take}
use Rattle.pipe_columns.specs.Frame.{appended_all, ColumnData, fields_of, FrameData, IsFrame, stacked, unsorted}
use Rattle.pipe_columns.proofs.FrameFacts.{whole}
use Rattle.pipe_columns.proofs.TypeFacts.{stacked_is}
use Rattle.pipe_columns.proofs.data_frame.DataFrame.vstack.Goals as goal

pub invariant_of-self-2 : goal.invariant_of-self-2
invariant_of-self-2 c =
    let columns = c.self.inside.columns in
    let others = c.other.inside.columns.items in
    let same : fields_of others ≡ fields_of columns.items = search rules in
    let appended : List ColumnData = c.append_all.new.columns in
    let long : length appended ≡ length columns.items = search rules in
    let count : columns.len ≡ length columns.items = search rules in
    let between : take columns.len (appended ++ drop (length appended) columns.items) ≡ appended = whole columns.len appended columns.items long count in
    let cleared : c.clear_all.new.columns ≡ map unsorted appended = c.clear_all.ensures ∙ ap (map unsorted) (c.deref_mut-2.ensures.value ∙ between) in
    let all : appended ≡ appended_all others columns.items = search rules in
    let still : length c.clear_all.new.columns ≡ length appended = search rules in
    let end : take columns.len (c.clear_all.new.columns ++ drop (length c.clear_all.new.columns) appended) ≡ c.clear_all.new.columns =
    whole columns.len c.clear_all.new.columns appended still (count ∙ sym long) in
    let f : FrameData = record { height = c.self.inside.height; columns = columns.items } in
    let g : FrameData = record { height = c.other.inside.height; columns = others } in
    let kept : IsFrame (stacked f g) = stacked_is f g same c.self.invariant c.other.invariant in
    rw between (rw end (rw cleared (rw all kept)))
