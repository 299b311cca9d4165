-- Of the proofs alone: partitions that are finished side by side, each with the local groups of its keys,
-- and what is kept of the groups that each gives.
use Rattle.std.specs.Prelude.{◌≡◌, ◌<◌, ◌++◌, ◌∷◌, ℕ, filter, length, List, map, Result, slice_index_or, Ok, Err}
use Rattle.std.specs.List.{All}
use Rattle.pipe_columns.specs.declared.schema.Field.{Field}
use Rattle.pipe_columns.specs.Frame.{AllHaveHeight}
use Rattle.pipe_columns.specs.Row.{Row}
use Rattle.pipe_aggs.specs.QueryTrees.{query_tree}
use Rattle.pipe_model.specs.Query.{QueryTree}
use Rattle.pipe_spill.specs.declared.spill_row.SpillRow.{SpillRow}
use Rattle.pipe_groups.specs.declared.placed_groups.PlacedGroups.{PlacedGroups}
use Rattle.pipe_groups.specs.Holds.{Holds}
use Rattle.pipe_keyed.specs.Tables.{Table}
use Rattle.pipe_tables.specs.Tables.{lies_in}
use Rattle.pipe_global.specs.declared.batch_error.BatchError.{BatchError}
use Rattle.pipe_global.specs.Finishing.{CanFinish, GivesOwnPlaced, GivesPlaced, HasNoFault, IsCause, KeepsRest, own_rows, StandFor}
use Rattle.pipe_global.specs.Partition.{PartitionSeen}
use Rattle.pipe_asked.specs.Given.{HasRows, SourceSeen}
use Rattle.pipe_asked.specs.Sources.{ArePlacedParts, IsPlacedFrame}

-- a table holds those of the rows of another whose keys lie in partition p, out of so many
pub record IsPartOf (partitions p : ℕ) (local part : Table) : Type 0 where
  pub shape : part.shape ≡ local.shape
  pub holds : (rows : List SpillRow) → Holds local.shape.prototypes local.groups rows
      → Holds local.shape.prototypes part.groups (filter (λ r. lies_in partitions p r.key) rows)

-- a partition can give its groups and the local ones of its keys, and their fields are taken
pub record CanBeKept (Takes : List Field → Type 0) (s : PartitionSeen) (local : Table) : Type 0 where
  pub can : CanFinish s local
  pub takes : Takes s.table.shape.fields

-- a partition gave the groups of its rows and of the local ones of its keys, of which this is kept, and
-- its store didn't fail
pub record GaveKept {K : Type 0} (Is : K → PlacedGroups → Type 0) (s : PartitionSeen) (local : Table)
    (new : PartitionSeen) (kept : K) : Type 0 where
  pub groups : PlacedGroups
  pub is : Is kept groups
  pub placed : (rows locals : List SpillRow) → StandFor s local rows locals
      → GivesPlaced s.table.shape (rows ++ own_rows s locals) groups.frame groups.firsts
  pub own : GivesOwnPlaced s groups.frame groups.firsts
  pub tall : AllHaveHeight groups.frame.height groups.frame.columns
  pub calm : HasNoFault s new

-- it did, or it was refused for its cause
abbrev pub GaveOrRefused : {K : Type 0} → (K → PlacedGroups → Type 0) → PartitionSeen → Table
    → PartitionSeen → Result K BatchError → Type 0
GaveOrRefused Is s local new (Ok k) = GaveKept Is s local new k
GaveOrRefused Is s local new (Err e) = IsCause s new e

-- a partition was finished
pub record WasFinished {K : Type 0} (Is : K → PlacedGroups → Type 0) (s : PartitionSeen) (local : Table)
    (new : PartitionSeen) (given : Result K BatchError) : Type 0 where
  pub kept : KeepsRest s new
  pub gave : GaveOrRefused Is s local new given

-- of what partitions gave in turn, a refusal is the first: all in front of it gave groups
pub record IsFirstRefusal {K : Type 0} (given : List (Result K BatchError)) (e : BatchError)
    : Type 0 where
  pub front : List K
  pub rest : List (Result K BatchError)
  pub is : given ≡ map Ok front ++ Err e ∷ rest

-- of groups of the query's columns, one by one, this is kept
pub record AreKeptOf {K : Type 0} (Is : K → PlacedGroups → Type 0) (q : QueryTree) (kept : List K)
    (groups : List PlacedGroups) : Type 0 where
  pub count : length kept ≡ length groups
  pub each : (p : ℕ) (k : K) (g : PlacedGroups) → p < length groups
      → Is (slice_index_or kept p k) (slice_index_or groups p g)
  pub frames : All (IsPlacedFrame q) groups
  pub tall : All (λ g. AllHaveHeight g.frame.height g.frame.columns) groups

-- this is kept of the groups of all partitions of a source
pub record AreKept {K : Type 0} (Is : K → PlacedGroups → Type 0) (s : SourceSeen) (kept : List K)
    : Type 0 where
  pub groups : List PlacedGroups
  pub of : AreKeptOf Is (query_tree s.query) kept groups
  pub count : length groups ≡ length s.partitions
  pub placed : (rs : List Row) → HasRows rs s
      → ArePlacedParts (query_tree s.query) rs (length s.partitions) groups
