use Rattle.std.proofs.Common.{◌≡◌, ◌+◌, ◌≤◌, ◌++◌, ◌&&◌, length, map, vec_capacity, vec_len}
use Rattle.std.specs.List.{All, list_all}
use Rattle.std.specs.Vec.Iter.{into_iter_items}
use Rattle.pipe_run.specs.Rounds.{has_gone_on, paused_of, shares_of}
use Rattle.pipe_run.proofs.round.gather.Given as goal

-- what is left of the jobs completes what was taken of them
abbrev pub invariant-loop-job : goal.invariant-loop-job
invariant-loop-job g l =
    (goal.iterator-loop-job g).can_next l.job-iterator
    × (goal.iterator-loop-job g).is_finite l.job-iterator
    × (vec_len l.shares + length (into_iter_items l.job-iterator) ≡ vec_len l.fn.jobs)
    × (vec_len l.rested + length (into_iter_items l.job-iterator) ≡ vec_len l.fn.jobs)
    × (vec_len l.fn.jobs ≤ vec_capacity l.shares)
    × (vec_len l.fn.jobs ≤ vec_capacity l.rested)
    × (l.shares.items ++ map shares_of (into_iter_items l.job-iterator) ≡ map shares_of l.fn.jobs.items)
    × (l.rested.items ++ map paused_of (into_iter_items l.job-iterator) ≡ map paused_of l.fn.jobs.items)
    × ((l.all && list_all has_gone_on (into_iter_items l.job-iterator)) ≡ list_all has_gone_on l.fn.jobs.items)
    × All (λ s. length s.events ≡ g.R.Naming.run.limits.partitions) l.shares.items
