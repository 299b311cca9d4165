-- Of the proofs alone: two rows with which tests begin, a partition before they come, and one whose
-- run has ended.
use Rattle.std.specs.Prelude.{◌≡◌, ◌<◌, ◌^◌, ◌∷◌, [], true, None, length, List}
use Rattle.std.specs.List.{list_all}
use Rattle.pipe_plan.specs.Run.{Run}
use Rattle.pipe_plan.specs.WorkedRuns.{sum_by_number}
use Rattle.pipe_spill.specs.SpillRow.{AreRows}
use Rattle.pipe_spill.specs.Store.{HasHeld}
use Rattle.pipe_spill.specs.declared.spill_row.SpillRow.{SpillRow}
use Rattle.pipe_keyed.specs.Tables.{Table}
use Rattle.pipe_tables.specs.Tables.{lies_in}
use Rattle.pipe_global.specs.Partition.{IsReplayed, IsRunnable, new_partition, PartitionSeen}

-- two rows of a table's types, whose keys lie in partition 3 of 16
pub record AreTwoOwn (t : Table) (rows : List SpillRow) : Type 0 where
  pub typed : AreRows t.shape.key_types t.shape.input_types rows
  pub lie : list_all (λ r. lies_in 16 3 r.key) rows ≡ true
  pub count : length rows ≡ 2

-- partition 3 of 16 before its first event, with an empty table and numbers left in its store
pub record IsNewPartition (s : PartitionSeen) : Type 0 where
  pub is : s ≡ new_partition 3 16 s.table (0 ∷ []) s.store
  pub book : s.book ≡ 0 ∷ []
  pub arrived : s.arrived ≡ 0
  pub groups : s.table.groups ≡ []
  pub limit : s.table.limit ≡ None
  pub all : HasHeld s.store.told s.store.held
  pub numbers : s.store.held < 2 ^ 63

-- the first partition of a run that ended, of a sum by a number
pub record HasEnded (s : PartitionSeen) : Type 0 where
  pub run : Run
  pub runnable : IsRunnable run
  pub replayed : IsReplayed run 0 s
  pub query : run.query ≡ sum_by_number
