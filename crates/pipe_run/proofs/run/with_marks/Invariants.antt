use Rattle.std.proofs.Common.{◌≡◌, ◌+◌, ◌≤◌, ◌++◌, length, map, take, vec_capacity, vec_len}
use Rattle.pipe_run.proofs.run.with_marks.Given as goal

-- marks of the chunks before
abbrev pub invariant-loop-chunk : goal.invariant-loop-chunk
invariant-loop-chunk l =
    (map (λ c. c.value) l.marks.items ≡ map (λ c. c.value) l.fn.marks.items ++ take l.chunk-index l.chunks)
    × (vec_len l.marks ≡ vec_len l.fn.marks + l.chunk-index)
    × (vec_len l.fn.marks + length l.chunks ≤ vec_capacity l.marks)
