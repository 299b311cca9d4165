use Rattle.std.proofs.Common.{◌≡◌}
use Rattle.pipe_workers.specs.Steps.{IsClosing}
use Rattle.pipe_workers.proofs.close.send_rests.Given as goal

-- what waited in the partitions before this one is sent
abbrev pub invariant-loop-partition : goal.invariant-loop-partition
invariant-loop-partition g l =
    IsClosing g.R.Naming.run l.fn.shares.worker l.partition l.table l.shares × (l.table.table ≡ l.fn.table.table)
