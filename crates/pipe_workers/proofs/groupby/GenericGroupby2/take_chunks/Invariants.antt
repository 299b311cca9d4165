use Rattle.std.proofs.Common.{◌+◌}
use Rattle.pipe_workers.specs.Turns.{IsReady}
use Rattle.pipe_workers.proofs.groupby.GenericGroupby2.take_chunks.Given as goal

-- the worker has taken its turns before this chunk
abbrev pub invariant-loop-number : goal.invariant-loop-number
invariant-loop-number g l = IsReady g.R.Naming.run l.fn.self.shares.worker (l.round.first + l.number) l.self
