use Rattle.pipe_plan.specs.Stores.{stores_seen}
use Rattle.test_partitions.specs.PlannedRuns.{second_spills}
use Rattle.test_partitions.proofs.planned.driven.Given as goal

-- the run over the stores, under the names of the ledgers that were just made
abbrev pub ghosts-drive : goal.ghosts-drive
ghosts-drive g a = record {
  run = second_spills (stores_seen g.S.SpillStore.held g.S.SpillStore.told g.S.SpillStore.faults g.S.SpillStore.sure g.S.SpillStore.path a.stores.items);
  partition_ledger = a.blanks.partitions.name;
  worker_ledger = a.blanks.workers.name;
  refusal_ledger = a.blanks.refusals.name;
  fault_ledger = a.blanks.faults.name;
}
