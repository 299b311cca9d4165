use Rattle.std.proofs.Common.{◌≡◌, ◌++◌}
use Rattle.pipe_source.proofs.round.push_all.Given as goal

-- the chunks so far are pushed, and the rest are to come
abbrev pub invariant-loop-chunk : goal.invariant-loop-chunk
invariant-loop-chunk l = record {
  rest : l.fn.more.items ≡ l.yielded ++ l.chunk-iterator.rest.items;
  pushed : l.chunks.items ≡ l.initial.chunks.items ++ l.yielded;
}
