use Rattle.std.proofs.Common.{rules, ◌≡◌, ◌∷◌, ◌++◌, List}
use Rattle.pipe_columns.specs.Frame.{ColumnData}
use Rattle.pipe_columns.proofs.FrameFacts.{done_more}
use Rattle.pipe_writers.proofs.RoomFacts.{fill_room, fill_step, fill_type, fill_wide}
use Rattle.pipe_writers.proofs.frame_room.fill_all.Goals as goal

pub fill-requires-clause-dtype : goal.fill-requires-clause-dtype
fill-requires-clause-dtype c =
    let inv = c.loop-other.invariant in
    let rest : List ColumnData = c.next.new.self.rest.items in
    let others : c.args.others.items ≡ c.loop-other.yielded ++ c.in-Some.other ∷ rest = search rules in
    rw inv.done (fill_type c.loop-other.yielded rest c.args.others.items c.args.columns.now c.loop-other.columns c.in-Some.other c.index-columns-done.result others c.requires.fields inv.columns)

pub fill-requires-clause-room : goal.fill-requires-clause-room
fill-requires-clause-room c =
    let inv = c.loop-other.invariant in
    let rest : List ColumnData = c.next.new.self.rest.items in
    let others : c.args.others.items ≡ c.loop-other.yielded ++ c.in-Some.other ∷ rest = search rules in
    rw inv.done (fill_room c.loop-other.yielded rest c.args.others.items c.args.columns.now c.loop-other.columns c.in-Some.other c.index-columns-done.result others c.requires.fields inv.columns c.args.height c.args.more c.args.most c.requires.height c.requires.more c.requires.few inv.room)

pub loop-other-preserved : goal.loop-other-preserved
loop-other-preserved c =
    let inv = c.loop-other.invariant in
    let rest : List ColumnData = c.next.new.self.rest.items in
    let others : c.args.others.items ≡ c.loop-other.yielded ++ c.in-Some.other ∷ rest = search rules in
    let more = done_more c.loop-other.yielded rest c.args.others.items c.in-Some.other c.loop-other.done inv.done others in
    let fill = rw inv.done at c.fill.ensures in
    record {
      done = more.0;
      columns = rw inv.done (fill_step c.loop-other.yielded rest c.args.others.items c.args.columns.now c.loop-other.columns c.in-Some.other c.index-columns-done.result others c.requires.fields inv.columns c.fill.new.self fill.field fill.values);
      room = rw inv.done (fill_wide c.loop-other.yielded rest c.args.others.items c.args.columns.now c.loop-other.columns c.in-Some.other c.index-columns-done.result others c.requires.fields inv.columns c.args.most c.fill.new.self fill.room inv.room);
      rest = more.1;
    }
