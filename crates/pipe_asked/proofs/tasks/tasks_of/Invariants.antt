use Rattle.std.proofs.Common.{◌≡◌, ◌+◌, ◌≤◌, ◌++◌, length, map, vec_capacity, vec_len}
use Rattle.std.specs.Vec.Iter.{into_iter_items, into_iter_len}
use Rattle.pipe_asked.proofs.tasks.tasks_of.Given as goal

-- the tasks so far have what was taken of both, and as much is left of one as of the other
abbrev pub invariant-loop-partition : goal.invariant-loop-partition
invariant-loop-partition g l = record {
  goes_on : (goal.iterator-loop-partition g).can_next l.partition-iterator;
  ends : (goal.iterator-loop-partition g).is_finite l.partition-iterator;
  room : vec_len l.tasks + length (into_iter_items l.partition-iterator) ≤ vec_capacity l.tasks;
  long : into_iter_len l.parts ≡ length (into_iter_items l.parts);
  count : length (into_iter_items l.parts) ≡ length (into_iter_items l.partition-iterator);
  partitions : map (λ t. t.partition) l.tasks.items ++ into_iter_items l.partition-iterator ≡ l.fn.closed.items;
  locals : map (λ t. t.local) l.tasks.items ++ into_iter_items l.parts ≡ l.fn.locals.items;
}
