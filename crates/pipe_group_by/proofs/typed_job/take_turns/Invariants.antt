use Rattle.std.proofs.Common.{◌≡◌, ◌++◌, map, take}
use Rattle.pipe_sinks.specs.Runs.{with_taken}
use Rattle.pipe_group_by.specs.Positions.{turns_of}
use Rattle.pipe_group_by.proofs.typed_job.take_turns.Given as goal

-- the worker's turns among the chunks before were taken
abbrev pub invariant-loop-number : goal.invariant-loop-number
invariant-loop-number l = l.sink ≡ with_taken (turns_of l.fn.workers l.fn.worker (map (λ c. c.value) l.fn.before ++ take l.number l.fn.chunks)) l.fn.sink
