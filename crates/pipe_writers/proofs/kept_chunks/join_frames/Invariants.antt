use Rattle.std.proofs.Common.{◌≡◌, ◌++◌}
use Rattle.pipe_writers.specs.Room.{all_stacked}
use Rattle.pipe_writers.proofs.kept_chunks.join_frames.Given as goal

-- the frames so far are below what the room had
abbrev pub invariant-loop-chunk : goal.invariant-loop-chunk
invariant-loop-chunk l = record {
  rest : l.fn.chunks.items ≡ l.yielded ++ l.chunk-iterator.rest.items;
  frame : l.room.frame ≡ all_stacked l.fn.room.frame l.yielded;
  most : l.room.most ≡ l.fn.room.most;
}
