use Rattle.std.proofs.Common.{[], true}
use Rattle.pipe_run.specs.Setting.{run_over}
use Rattle.pipe_run.proofs.opening.opened.Given as goal

-- the run without chunks, under the names of the ledgers that were just made
abbrev pub ghosts-opened_named : goal.ghosts-opened_named
ghosts-opened_named g a = record {
  run = run_over a.begun.now true [];
  partition_ledger = a.blanks.partitions.name;
  worker_ledger = a.blanks.workers.name;
  refusal_ledger = a.blanks.refusals.name;
  fault_ledger = a.blanks.faults.name;
}
