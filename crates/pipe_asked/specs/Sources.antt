-- What a group source has, and what it still has to give, in whichever order.
use Rattle.std.specs.Prelude.{◌≡◌, ◌-◌, ◌==◌, ◌<◌, ◌≤◌, ◌||◌, ℕ, Bool, true, List, [], ◌∷◌, All, None, length, map, slice_index_or, Option, if◌then◌else◌, ⊤}
use Rattle.std.specs.List.{Contains}
use Rattle.pipe_columns.specs.declared.data_chunk.DataChunk.{DataChunk}
use Rattle.pipe_columns.specs.Frame.{FitsSchema}
use Rattle.pipe_columns.specs.Row.{Row}
use Rattle.pipe_aggs.specs.declared.query.Query.{Query}
use Rattle.pipe_aggs.specs.QueryTrees.{query_tree}
use Rattle.pipe_model.specs.Answer.{groups}
use Rattle.pipe_model.specs.Output.{output_schema}
use Rattle.pipe_model.specs.Partitions.{groups_in}
use Rattle.pipe_model.specs.Query.{QueryTree}
use Rattle.pipe_groups.specs.declared.placed_groups.PlacedGroups.{PlacedGroups}
use Rattle.pipe_groups.specs.QueryRows.{ArePlacedRows}
use Rattle.pipe_keyed.specs.Tables.{Table}
use Rattle.pipe_global.specs.declared.batch_error.BatchError.{BatchError}
use Rattle.pipe_global.specs.declared.batch_error.BatchError.TheVariants as batch_error
use Rattle.pipe_global.specs.Partition.{PartitionSeen}
use Rattle.pipe_asked.specs.Left.{AreSamePartitions, CountOn, RoseFrom}
use Rattle.pipe_asked.specs.Given.{partition_chunks, frame_of_keys, HasRows, is_used_up, SourceSeen}

-- its partitions; where order is kept, the placed groups of those that were asked, which wait for the
-- others, and whether the one chunk was given
pub record GroupSourceSeen : Type 0 where
  pub asked : SourceSeen
  pub placed : List PlacedGroups
  pub is_given : Bool

-- the query that it gives the groups of
abbrev pub source_query : GroupSourceSeen → QueryTree
source_query s = query_tree s.asked.query

-- how many partitions it has
abbrev pub partition_count : GroupSourceSeen → ℕ
partition_count s = length s.asked.partitions

-- closed partitions, a local table and a slice, of which nothing was given
abbrev pub unasked : Query → List PartitionSeen → Table → Option (ℕ × ℕ) → SourceSeen
unasked query partitions local slice = record {
  query = query;
  partitions = partitions;
  local = local;
  slice = slice;
  given = 0;
}

-- ---- what it keeps

-- a frame of the query's columns, and a place for each row
pub record IsPlacedFrame (q : QueryTree) (g : PlacedGroups) : Type 0 where
  pub fields : FitsSchema (output_schema q) g.frame
  pub places : length g.firsts ≡ g.frame.height

-- where order is kept, the groups of each partition that was asked wait
pub record IsGroupSource (s : GroupSourceSeen) : Type 0 where
  pub waiting : (source_query s).keeps_order ≡ true → length s.placed ≡ s.asked.given
  pub frames : All (IsPlacedFrame (source_query s)) s.placed

-- ---- what it stands for

-- placed groups are those of the first partitions, out of so many, over rows
abbrev pub ArePlacedParts : QueryTree → List Row → ℕ → List PlacedGroups → Type 0
ArePlacedParts q rs partitions placed =
    (p : ℕ) (d : PlacedGroups) → p < length placed → ArePlacedRows q rs (groups_in partitions q p rs)
    (slice_index_or placed p d).frame (slice_index_or placed p d).firsts

-- rows of the query for which its partitions stand, and the groups that wait
pub record HasAllRows (rs : List Row) (s : GroupSourceSeen) : Type 0 where
  pub some : 0 < partition_count s
  pub rows : HasRows rs s.asked
  pub placed : ArePlacedParts (source_query s) rs (partition_count s) s.placed

-- ---- what is left to give

-- whether nothing is: the slice has no length left; or order isn't kept, and every partition was
-- given; or it is, and the one chunk was given
abbrev pub is_over : GroupSourceSeen → Bool
is_over s =
    is_used_up s.asked.slice
    || (if (source_query s).keeps_order then s.is_given else s.asked.given == partition_count s)

-- the one chunk of all groups in the order of their least places, under a slice
abbrev pub whole_chunk : QueryTree → List Row → ℕ → Option (ℕ × ℕ) → DataChunk
whole_chunk q rs partitions slice = record {
  chunk_index = 1;
  frame = frame_of_keys q rs slice (groups rs q partitions);
}

-- the chunks that are left to give, over the rows for which it stands
abbrev pub chunks_left : List Row → GroupSourceSeen → List DataChunk
chunks_left rs s =
    if (source_query s).keeps_order
    then (if is_over s then [] else whole_chunk (source_query s) rs (partition_count s) s.asked.slice ∷ [])
    else partition_chunks (source_query s) rs (partition_count s) s.asked.slice s.asked.given
    (partition_count s - s.asked.given)

-- all chunks of rows in so many partitions, under the query's slice
abbrev pub chunks_in_all : QueryTree → List Row → ℕ → List DataChunk
chunks_in_all q rs partitions =
    if q.keeps_order
    then (if is_used_up q.slice then [] else whole_chunk q rs partitions q.slice ∷ [])
    else partition_chunks q rs partitions q.slice 0 partitions

-- how many chunks are left at most
abbrev pub most_left : GroupSourceSeen → ℕ
most_left s =
    if (source_query s).keeps_order then (if s.is_given then 0 else 1)
    else partition_count s - s.asked.given

-- ---- what a call does

-- the query stays, the partitions are kept, and no fewer were asked
pub record KeepsAsked (s new : SourceSeen) : Type 0 where
  pub query : new.query ≡ s.query
  pub partitions : AreSamePartitions s.partitions new.partitions
  pub given : s.given ≤ new.given

-- the partitions that weren't asked are as before, and each store's count of faults
pub record LeavesOthers (s new : SourceSeen) : Type 0 where
  pub others : (p : ℕ) (d : PartitionSeen) → new.given ≤ p
      → slice_index_or new.partitions p d ≡ slice_index_or s.partitions p d
  pub calm : CountOn s.partitions new.partitions

-- why nothing was given: of a partition that was still to be asked the store's faults rose, and of none
-- in front of it; or the store doesn't tell, and the frame that is named has a mark; or memory ran out
abbrev pub IsGiveCause : SourceSeen → SourceSeen → BatchError → Type 0
IsGiveCause s new (batch_error.Store p) = (s.given ≤ p) × RoseFrom s.partitions p new.partitions
IsGiveCause s new (batch_error.Damaged p n) =
    (s.given ≤ p) × (p < length s.partitions)
    × ((d : PartitionSeen) → ((slice_index_or s.partitions p d).store.told ≡ None)
    × Contains (map (λ m. m.number) (slice_index_or s.partitions p d).marks) n)
IsGiveCause s new batch_error.Memory = ⊤
