-- A run whose partitions are closed, and may be asked for their groups.
use Rattle.std.specs.Prelude.{◌≡◌, ◌<◌, ◌^◌, ℕ, false, true, List, [], Option, length, slice_index_or}
use Rattle.std.specs.List.{All}
use Rattle.pipe_aggs.specs.declared.query.Query.{Query}
use Rattle.pipe_aggs.specs.CheckedQuery.{IsSound}
use Rattle.pipe_aggs.specs.QueryTrees.{query_tree}
use Rattle.pipe_model.specs.Rows.{AreChunksOf}
use Rattle.pipe_groups.specs.Holds.{Holds}
use Rattle.pipe_groups.specs.Shape.{shape_of}
use Rattle.pipe_plan.specs.Run.{all_rows, Run, tells}
use Rattle.pipe_plan.specs.Whole.{all_kept}
use Rattle.pipe_spill.specs.Store.{HasHeld}
use Rattle.pipe_keyed.specs.Tables.{Table}
use Rattle.pipe_global.specs.Partition.{IsRunnable, PartitionSeen, spilled_all}
use Rattle.pipe_run.specs.Fed.{AreWholePartitions}
use Rattle.pipe_asked.specs.Given.{IsSource}
use Rattle.pipe_asked.specs.Sources.{HasAllRows, unasked}

-- a run of a query over all its chunks has ended: its partitions hold all plans whole, and a local
-- table has what its workers kept
pub record HasEndedRun (r : Run) (query : Query) (closed : List PartitionSeen) (local : Table)
    : Type 0 where
  pub run : IsRunnable r
  pub of_query : r.query ≡ query_tree query
  pub sound : IsSound query
  pub shut : r.is_open ≡ false
  pub chunks : AreChunksOf r.query r.chunks
  pub whole : AreWholePartitions r closed
  pub few : length closed < 2 ^ 32
  pub held : (p : ℕ) (d : PartitionSeen) → p < length closed
      → HasHeld (slice_index_or closed p d).store.told (slice_index_or closed p d).store.held
  pub shape : local.shape ≡ shape_of r.query
  pub kept : Holds (shape_of r.query).prototypes local.groups (spilled_all r.query (all_kept r))

-- these can be asked, under any slice
abbrev pub CanBeAsked : Type 0
CanBeAsked =
    (r : Run) (query : Query) (closed : List PartitionSeen) (local : Table)
    (slice : Option (ℕ × ℕ)) → HasEndedRun r query closed local
    → IsSource (unasked query closed local slice)

-- where the stores tell, they stand for all rows of the run
abbrev pub StandForAllRows : Type 0
StandForAllRows =
    (r : Run) (query : Query) (closed : List PartitionSeen) (local : Table)
    (slice : Option (ℕ × ℕ)) → HasEndedRun r query closed local
    → All (λ s. tells s ≡ true) r.stores
    → HasAllRows (all_rows r) (record {
      asked = unasked query closed local slice;
      placed = [];
      is_given = false;
    })
