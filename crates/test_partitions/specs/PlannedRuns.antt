-- Of the proofs alone: the run of tests, with two workers and two partitions, and what it leaves.
use Rattle.std.specs.Prelude.{◌≡◌, ℕ, List, [], ◌∷◌}
use Rattle.pipe_columns.specs.declared.data_type.DataType.TheVariants as dt
use Rattle.pipe_plan.specs.declared.event.SpillAction.TheVariants as action
use Rattle.pipe_plan.specs.Run.{Run, StoreSeen}
use Rattle.pipe_plan.specs.WorkedRuns.{generic, numbers_chunk, row_at, run_of, sum_by_number}
use Rattle.pipe_spill.specs.SpillRow.{Payload, payload_of}
use Rattle.pipe_global.specs.Partition.{IsReplayed, IsRunnable, PartitionSeen}
use Rattle.pipe_global.specs.Shares.{SharesSeen}

-- spill size 0, buffer 1: the second worker's chunk has the keys 1, 2, 2 with the values 5, 6, 7, so
-- two pieces arrive in the second partition, and are dumped
abbrev pub second_spills : List StoreSeen → Run
second_spills stores =
    record
    (run_of sum_by_number (generic 2 2 0 1 0) ([] ∷ (action.Dump ∷ []) ∷ [])
    (numbers_chunk [] ∷ numbers_chunk ((1, 5) ∷ (2, 6) ∷ (2, 7) ∷ []) ∷ [])) {
      stores = stores;
    }

-- the payload of a row of the second chunk, of the key 2
abbrev pub payload_at : ℕ → ℕ → Payload
payload_at row input = payload_of (dt.Int64 ∷ []) (row_at 1 row 2 (input ∷ []) ∷ [])

-- the shares of the second worker, after so many events in the second partition
abbrev pub second_shares : ℕ → SharesSeen
second_shares events =
    record { worker = 1; picks = 0; events = 0 ∷ events ∷ []; faults = 0 ∷ 0 ∷ [] }

-- the second partition of a run that ended, of a sum by a number
pub record HasEnded (s : PartitionSeen) : Type 0 where
  pub run : Run
  pub runnable : IsRunnable run
  pub replayed : IsReplayed run 1 s
  pub query : run.query ≡ sum_by_number
