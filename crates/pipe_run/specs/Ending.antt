-- What the answer of a run that has ended leaves of its partitions, and why there is none.
use Rattle.std.specs.Prelude.{◌≡◌, ◌<◌, ◌≤◌, ℕ, None, List, length, slice_index_or, ⊤}
use Rattle.pipe_plan.specs.Run.{Run}
use Rattle.pipe_global.specs.declared.batch_error.BatchError.{BatchError}
use Rattle.pipe_global.specs.declared.batch_error.BatchError.TheVariants as batch_error
use Rattle.pipe_global.specs.Partition.{PartitionSeen, store_of}
use Rattle.pipe_asked.specs.Left.{RoseFrom}

-- why a run that has ended has no answer: the store that is named is the first whose faults rose
-- meanwhile; or a store doesn't tell, and the frame that is named is one that the run put there; or
-- memory ran out
abbrev pub IsAnswerCause : Run → List PartitionSeen → List PartitionSeen → BatchError → Type 0
IsAnswerCause r before after (batch_error.Store p) = RoseFrom before p after
IsAnswerCause r before after (batch_error.Damaged p n) =
    (p < length before) × ((store_of r p).told ≡ None) × ((store_of r p).held ≤ n)
    × ((d : PartitionSeen) → n < (slice_index_or after p d).store.held)
IsAnswerCause r before after batch_error.Memory = ⊤
