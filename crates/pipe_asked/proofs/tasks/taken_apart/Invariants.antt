use Rattle.std.proofs.Common.{◌≡◌, ◌+◌, ◌≤◌, ◌++◌, length, map, vec_capacity, vec_len}
use Rattle.std.specs.Vec.Iter.{into_iter_items}
use Rattle.pipe_asked.proofs.SideBySide.{HasTaken}
use Rattle.pipe_asked.proofs.tasks.taken_apart.Given as goal

-- the partitions so far, and what they gave, or the first refusal among it
abbrev pub invariant-loop-task : goal.invariant-loop-task
invariant-loop-task g l = record {
  goes_on : (goal.iterator-loop-task g).can_next l.task-iterator;
  ends : (goal.iterator-loop-task g).is_finite l.task-iterator;
  room : vec_len l.closed + length (into_iter_items l.task-iterator) ≤ vec_capacity l.closed;
  kept_room : vec_len l.kept + length (into_iter_items l.task-iterator) ≤ vec_capacity l.kept;
  partitions : l.closed.items ++ map (λ t. t.partition) (into_iter_items l.task-iterator) ≡ map (λ t. t.partition) l.fn.tasks.items;
  taken : HasTaken l.refusal l.kept.items (map (λ t. t.given) (into_iter_items l.task-iterator)) (map (λ t. t.given) l.fn.tasks.items);
}
