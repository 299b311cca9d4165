use Rattle.std.proofs.Common.{◌≡◌, ◌++◌, ◌∷◌, rules}
use Rattle.pipe_writers.proofs.RoomFacts.{next_fields, next_room}
use Rattle.pipe_writers.proofs.kept_chunks.join_frames.Goals as goal

pub fill-requires-clause-fields : goal.fill-requires-clause-fields
fill-requires-clause-fields c =
    let all : c.args.chunks.items ≡ c.loop-chunk.yielded ++ c.in-Some.chunk ∷ c.next.new.self.rest.items = search rules in
    next_fields c.args.room.frame c.args.chunks.items c.loop-chunk.yielded c.in-Some.chunk c.next.new.self.rest.items c.loop-chunk.room.frame all c.loop-chunk.invariant.frame c.requires.fit

pub fill-requires-clause-room : goal.fill-requires-clause-room
fill-requires-clause-room c =
    let all : c.args.chunks.items ≡ c.loop-chunk.yielded ++ c.in-Some.chunk ∷ c.next.new.self.rest.items = search rules in
    rw c.loop-chunk.invariant.most (next_room c.args.room.frame c.args.chunks.items c.loop-chunk.yielded c.in-Some.chunk c.next.new.self.rest.items c.loop-chunk.room.frame all c.loop-chunk.invariant.frame c.args.room.most c.requires.room)
