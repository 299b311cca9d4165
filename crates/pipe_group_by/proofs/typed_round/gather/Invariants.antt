use Rattle.std.proofs.Common.{◌≡◌, ◌++◌, false, map}
use Rattle.std.specs.List.{All}
use Rattle.std.specs.Vec.Iter.{into_iter_items}
use Rattle.pipe_group_by.proofs.typed_round.gather.Given as goal

-- the sinks of the jobs that are left complete those that rest, of which none was refused a chunk
abbrev pub invariant-loop-job : goal.invariant-loop-job
invariant-loop-job l =
    goal.iterator-loop-job.can_next l.job-iterator
    × goal.iterator-loop-job.is_finite l.job-iterator
    × (l.sinks.items ++ map (λ j. j.sink) (into_iter_items l.job-iterator) ≡ map (λ j. j.sink) l.fn.jobs.items)
    × (All (λ j. j.refused ≡ false) (into_iter_items l.job-iterator) → All (λ j. j.refused ≡ false) l.fn.jobs.items)
