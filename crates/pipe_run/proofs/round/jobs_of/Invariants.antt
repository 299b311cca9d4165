use Rattle.std.proofs.Common.{◌≡◌, ◌+◌, ◌≤◌, ◌++◌, length, vec_capacity, vec_len}
use Rattle.std.specs.Vec.Iter.{into_iter_items}
use Rattle.pipe_run.specs.Rounds.{jobs_of}
use Rattle.pipe_run.proofs.round.jobs_of.Given as goal

-- as many paused workers are left as shares, and what is made of them completes the jobs
abbrev pub invariant-loop-one : goal.invariant-loop-one
invariant-loop-one g l =
    (goal.iterator-loop-one g).can_next l.one-iterator
    × (goal.iterator-loop-one g).is_finite l.one-iterator
    × (length (into_iter_items l.waiting) ≡ length (into_iter_items l.one-iterator))
    × (vec_len l.jobs + length (into_iter_items l.one-iterator) ≡ vec_len l.fn.shares)
    × (vec_len l.fn.shares ≤ vec_capacity l.jobs)
    × (l.jobs.items ++ jobs_of (into_iter_items l.waiting) (into_iter_items l.one-iterator) ≡ jobs_of l.fn.rested.items l.fn.shares.items)
