use Rattle.std.proofs.Common.{◌≡◌, ◌++◌, List, map, Ok}
use Rattle.pipe_columns.specs.declared.data_chunk.DataChunk.{DataChunk}
use Rattle.pipe_source.proofs.round.push_made.Given as goal

-- the chunks so far were made, and the rest are to come
abbrev pub invariant-loop-place : goal.invariant-loop-place
invariant-loop-place l = record {
  done : List DataChunk;
  made : map (λ p. p.made) l.yielded ≡ map Ok done;
  rest : l.fn.places.items ≡ l.yielded ++ l.place-iterator.rest.items;
  pushed : l.chunks.items ≡ l.initial.chunks.items ++ done;
}
