-- Closed partitions that are asked for their groups, one after another, and what each gives.
use Rattle.std.specs.Prelude.{◌≡◌, ◌≢◌, ◌+◌, ◌^◌, ◌==◌, ◌<◌, ◌≤◌, ℕ, zero, suc, Bool, false, List, [], ◌∷◌, ◌++◌, All, length, map, slice_index_or, Option, None, Some, fold, if◌then◌else◌}
use Rattle.std.specs.List.Sorted.{IsPermutation}
use Rattle.pipe_columns.specs.declared.any_value.AnyValue.{AnyValue}
use Rattle.pipe_columns.specs.declared.data_chunk.DataChunk.{DataChunk}
use Rattle.pipe_columns.specs.Frame.{frame_of, FrameData, stacked}
use Rattle.pipe_columns.specs.Row.{Row}
use Rattle.pipe_columns.specs.Slice.{sliced}
use Rattle.pipe_aggs.specs.declared.query.Query.{Query}
use Rattle.pipe_aggs.specs.QueryTrees.{query_tree}
use Rattle.pipe_model.specs.Answer.{answer_row}
use Rattle.pipe_model.specs.Groupable.{IsGroupable}
use Rattle.pipe_model.specs.Output.{output_schema}
use Rattle.pipe_model.specs.Partitions.{groups_in, rows_in}
use Rattle.pipe_model.specs.Query.{QueryTree}
use Rattle.pipe_model.specs.Rows.{HaveDistinctPlaces}
use Rattle.pipe_inputs.specs.RowTypes.{IsRowOf}
use Rattle.pipe_spill.specs.declared.spill_row.SpillRow.{SpillRow}
use Rattle.pipe_groups.specs.Given.{slice_after}
use Rattle.pipe_groups.specs.Holds.{Holds}
use Rattle.pipe_groups.specs.Shape.{shape_of}
use Rattle.pipe_keyed.specs.Tables.{Table}
use Rattle.pipe_global.specs.Finishing.{CanFinish, own_rows, StandsForRows}
use Rattle.pipe_global.specs.Partition.{PartitionSeen, spilled_all}
use Rattle.pipe_asked.specs.Left.{AreSamePartitions}

-- its query, the partitions, the local table, what is left of the slice, how many partitions it gave
pub record SourceSeen : Type 0 where
  pub query : Query
  pub partitions : List PartitionSeen
  pub local : Table
  pub slice : Option (ℕ × ℕ)
  pub given : ℕ

-- ---- what it keeps

-- the partition at a number is that of the number, and can give its groups with the local ones
pub record IsAt (s : SourceSeen) (p : ℕ) (x : PartitionSeen) : Type 0 where
  pub number : x.number ≡ p
  pub partitions : x.partitions ≡ length s.partitions
  pub shape : x.table.shape ≡ shape_of (query_tree s.query)
  pub can : s.given ≤ p → CanFinish x s.local

-- its query has no fault, each partition is in its place, and those that weren't given can give their
-- groups
pub record IsSource (s : SourceSeen) : Type 0 where
  pub groupable : IsGroupable (query_tree s.query)
  pub given : s.given ≤ length s.partitions
  pub few : length s.partitions < 2 ^ 32
  pub each : (p : ℕ) (d : PartitionSeen) → p < length s.partitions
      → IsAt s p (slice_index_or s.partitions p d)

-- ---- what it stands for

-- a partition and the local rows of its keys stand for the rows of the partition among these
pub record StandsForPart (q : QueryTree) (rs : List Row) (locals : List SpillRow)
    (s : PartitionSeen) : Type 0 where
  pub rows : List SpillRow
  pub stands : StandsForRows s rows
  pub all : IsPermutation (rows ++ own_rows s locals)
      (spilled_all q (rows_in s.partitions q s.number rs))

-- the partitions that weren't given, with the local table, stand for their parts of rows
pub record StandsForParts (rs : List Row) (s : SourceSeen) : Type 0 where
  pub locals : List SpillRow
  pub holds : Holds (shape_of (query_tree s.query)).prototypes s.local.groups locals
  pub parts : (p : ℕ) (d : PartitionSeen) → s.given ≤ p → p < length s.partitions
      → StandsForPart (query_tree s.query) rs locals (slice_index_or s.partitions p d)

-- ---- what is left to give

-- whether a slice has no length left
abbrev pub is_used_up : Option (ℕ × ℕ) → Bool
is_used_up None = false
is_used_up (Some s) = s.1 == 0

-- the frame of some keys under a slice, each with the aggregates of its rows
abbrev pub frame_of_keys :
    QueryTree → List Row → Option (ℕ × ℕ) → List (List AnyValue) → FrameData
frame_of_keys q rs slice keys =
    frame_of (output_schema q) (map (answer_row q rs) (sliced slice keys))

-- the chunk of partition p, out of so many
abbrev pub partition_chunk : QueryTree → List Row → ℕ → Option (ℕ × ℕ) → ℕ → DataChunk
partition_chunk q rs partitions slice p = record {
  chunk_index = p + 1;
  frame = frame_of_keys q rs slice (groups_in partitions q p rs);
}

-- the chunks of n partitions from p on, out of so many, while the slice has length left
abbrev pub partition_chunks : QueryTree → List Row → ℕ → Option (ℕ × ℕ) → ℕ → ℕ → List DataChunk
partition_chunks q rs partitions slice p zero = []
partition_chunks q rs partitions slice p (suc n) =
    if is_used_up slice then []
    else partition_chunk q rs partitions slice p
    ∷ partition_chunks q rs partitions
    (slice_after (length (groups_in partitions q p rs)) slice) (p + 1) n

-- ---- what a call does

-- rows of the query, no place of which stands twice, for which the source stands
pub record HasRows (rs : List Row) (s : SourceSeen) : Type 0 where
  pub typed : All (IsRowOf (query_tree s.query)) rs
  pub apart : HaveDistinctPlaces rs
  pub stands : StandsForParts rs s

-- the chunk of the next partition was given, and less is left of the slice
pub record HasGivenNext (rs : List Row) (s new : SourceSeen) (c : DataChunk) : Type 0 where
  pub chunk : c ≡ partition_chunk (query_tree s.query) rs (length s.partitions) s.slice s.given
  pub slice : new.slice
      ≡ slice_after (length (groups_in (length s.partitions) (query_tree s.query) s.given rs))
      s.slice

-- the query stays, the partitions are kept, those that weren't asked are as before, and so many
-- partitions were given
pub record KeepsSource (s new : SourceSeen) (given : ℕ) : Type 0 where
  pub query : new.query ≡ s.query
  pub partitions : AreSamePartitions s.partitions new.partitions
  pub others : (p : ℕ) (d : PartitionSeen) → p ≢ s.given
      → slice_index_or new.partitions p d ≡ slice_index_or s.partitions p d
  pub given_is : new.given ≡ given

-- the rows of the frames of chunks, one below the other
abbrev pub joined_frames : QueryTree → List DataChunk → FrameData
joined_frames q chunks = fold (λ f c. stacked f c.frame) (frame_of (output_schema q) []) chunks
