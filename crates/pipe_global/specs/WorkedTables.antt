-- Of the proofs alone: worked runs over a store, for tests, with one worker and one partition.
use Rattle.std.specs.Prelude.{◌≡◌, ℕ, true, false, [], ◌∷◌, Some, slice_index_or, None}
use Rattle.pipe_columns.specs.declared.data_type.DataType.TheVariants as dt
use Rattle.pipe_plan.specs.Run.{Run, StoreSeen}
use Rattle.pipe_plan.specs.WorkedRuns.{both_rounds, first_round, in_rounds, left_open, one_spill, row_at}
use Rattle.pipe_spill.specs.SpillRow.{Payload, payload_of}
use Rattle.pipe_global.specs.Partition.{IsReplayed, PartitionSeen}
use Rattle.pipe_global.specs.Shares.{SharesSeen}

-- the run of one spill over a store: two pieces arrive and are dumped
abbrev pub one_spill_on : StoreSeen → Run
one_spill_on store = record (one_spill 0) { stores = store ∷ [] }

-- the payload of one row of the first chunk, a number key and an input
abbrev pub payload_at : ℕ → ℕ → ℕ → Payload
payload_at row key input = payload_of (dt.Int64 ∷ []) (row_at 0 row key (input ∷ []) ∷ [])

-- shares of the worker: picks, events and refused puts
abbrev pub shares_at : ℕ → ℕ → ℕ → SharesSeen
shares_at picks events faults =
    record { worker = 0; picks = picks; events = events ∷ []; faults = faults ∷ [] }

-- an empty store that tells its frames and never fails, with so many faults
abbrev pub empty_store : ℕ → StoreSeen
empty_store faults = record { held = 0; told = Some []; faults = faults; sure = true; path = None }

-- the open run of a first round over it: a dump that finds nothing
abbrev pub first_of_two : ℕ → Run
first_of_two faults =
    record (left_open (in_rounds 2 first_round)) { stores = empty_store faults ∷ [] }

-- the run of both rounds over it: then a piece of two rows arrives, and is dumped
abbrev pub both_of_two : ℕ → Run
both_of_two faults = record (in_rounds 2 both_rounds) { stores = empty_store faults ∷ [] }

-- the piece of both rounds: a row of each, of the same key
abbrev pub piece_of_two : Payload
piece_of_two =
    payload_of (dt.Int64 ∷ []) (row_at 0 1 2 (6 ∷ []) ∷ row_at 1 0 2 (7 ∷ []) ∷ [])

-- the partition after the first round: one event of its worker, and no put was refused
pub record HasRested (s : PartitionSeen) : Type 0 where
  pub replayed : IsReplayed (first_of_two 0) 0 s
  pub sound : s.failed ≡ false
  pub book : slice_index_or s.book 0 0 ≡ 1
