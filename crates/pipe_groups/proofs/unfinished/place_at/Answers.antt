use Rattle.pipe_groups.proofs.ColumnFacts.{columns_of-set, room-here, room-next}
use Rattle.pipe_groups.proofs.unfinished.place_at.Goals as goal

pub unwrap-requires : goal.unwrap-requires
unwrap-requires c = c.push.ensures.succeeds (room-here c.args.at c.args.columns.now c.index-columns-at.result c.requires.within c.requires.room)

pub returns-clause-columns : goal.returns-clause-columns
returns-clause-columns c =
    columns_of-set c.args.columns.now c.args.at c.push.new.self c.args.value c.index-columns-at.result c.requires.within (rw c.unwrap.ensures at c.push.ensures.column)

pub returns-clause-room : goal.returns-clause-room
returns-clause-room c = λ n h.
    room-next n c.args.at c.args.columns.now c.index-columns-at.result c.push.new.self c.requires.within (rw c.unwrap.ensures at c.push.ensures.len) c.push.ensures.capacity h
