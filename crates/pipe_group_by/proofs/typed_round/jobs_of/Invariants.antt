use Rattle.std.proofs.Common.{◌≡◌, ◌++◌, map}
use Rattle.std.specs.List.{All}
use Rattle.std.specs.Vec.Iter.{into_iter_items}
use Rattle.pipe_group_by.specs.Jobs.{sink_job}
use Rattle.pipe_group_by.proofs.typed_round.jobs_of.Given as goal

-- what is made of the sinks that are left completes the jobs
abbrev pub invariant-loop-sink : goal.invariant-loop-sink
invariant-loop-sink l =
    goal.iterator-loop-sink.can_next l.sink-iterator
    × goal.iterator-loop-sink.is_finite l.sink-iterator
    × All (λ s. l.fn.query ≡ s.query) (into_iter_items l.sink-iterator)
    × (l.jobs.items ++ map sink_job (into_iter_items l.sink-iterator) ≡ map sink_job l.fn.sinks.items)
