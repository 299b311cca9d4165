use Rattle.std.proofs.Common.{rules, ◌≡◌, ◌∙◌, ◌+◌, ◌++◌, List, ap, drop, length, take}
use Rattle.pipe_columns.specs.Frame.{ColumnData, appended_all, fields_of, stacked}
use Rattle.pipe_columns.proofs.FrameFacts.{whole}
use Rattle.pipe_writers.specs.Room.{ColumnRoomData, filled_columns}
use Rattle.pipe_writers.proofs.RoomFacts.{filled_frame, kept_room}
use Rattle.pipe_writers.proofs.frame_room.FrameRoom.fill.Goals as goal

pub invariant_of-self : goal.invariant_of-self
invariant_of-self c =
    let rooms : List ColumnRoomData = c.self.inside.columns.items in
    let new : List ColumnRoomData = c.fill_all.new.columns in
    let others : List ColumnData = c.into_columns.result.items in
    let value : c.deref_mut.result.now ≡ rooms = c.deref_mut.ensures.value in
    let filled : filled_columns new ≡ appended_all others (filled_columns rooms) = c.fill_all.ensures.filled ∙ ap (λ (rs : List ColumnRoomData). appended_all others (filled_columns rs)) value in
    let long : length new ≡ length rooms = search rules in
    let count : c.self.inside.columns.len ≡ length rooms = search rules in
    let same : fields_of others ≡ fields_of (filled_columns rooms) = search rules in
    rw (whole c.self.inside.columns.len new rooms long count)
    (kept_room rooms new others c.self.inside.height c.height-more.result c.self.inside.most _ _ c.self.invariant same (search rules) filled c.fill_all.ensures.room long)

pub returns : goal.returns
returns c =
    let rooms : List ColumnRoomData = c.self.inside.columns.items in
    let new : List ColumnRoomData = c.fill_all.new.columns in
    let filled : filled_columns new ≡ appended_all c.args.frame.columns c.args.self.now.frame.columns = search rules in
    let long : length new ≡ length rooms = search rules in
    let count : c.self.inside.columns.len ≡ length rooms = search rules in
    let all : filled_columns (take c.self.inside.columns.len (new ++ drop (length new) rooms)) ≡ (stacked c.args.self.now.frame c.args.frame).columns =
    ap filled_columns (whole c.self.inside.columns.len new rooms long count) ∙ filled_frame new c.args.self.now.frame c.args.frame filled in
    let high : c.self.inside.height + c.height-more.result ≡ c.args.self.now.frame.height + c.args.frame.height = search rules in
    let most : c.self.inside.most ≡ c.args.self.now.most = search rules in
    λ i. record { frame = record { height = high i; columns = all i }; most = most i }
