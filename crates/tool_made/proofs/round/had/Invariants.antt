use Rattle.std.proofs.Common.{◌≡◌, ◌++◌, Ok, map}
use Rattle.tool_made.proofs.round.had.Given as goal

-- the chunks had so far and the tries that are left are all tries
abbrev pub invariant-loop-chunk : goal.invariant-loop-chunk
invariant-loop-chunk l = map Ok l.chunks.items ++ l.chunk-iterator.rest.items ≡ l.fn.tries.items
