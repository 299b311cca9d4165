use Rattle.std.proofs.Common.{◌++◌}
use Rattle.std.specs.Prelude.{map}
use Rattle.pipe_run.specs.Setting.{counted_from, run_over}
use Rattle.pipe_run.proofs.round_of.round.Given as goal

-- the run over all chunks, under the names of the ledgers that were just made
abbrev pub ghosts-round_named : goal.ghosts-round_named
ghosts-round_named g a = record {
  run = counted_from (run_over a.begun.now a.is_open (map (λ s. s.value) a.taken.now ++ a.chunks.now)) (map (λ c. c.store.faults) a.closed.items);
  partition_ledger = a.blanks.partitions.name;
  worker_ledger = a.blanks.workers.name;
  refusal_ledger = a.blanks.refusals.name;
  fault_ledger = a.blanks.faults.name;
}
