-- Of the proofs alone: how a sink keeps what it took.
use Rattle.std.specs.Prelude.{◌<◌, ◌≤◌, ◌^◌, ◌≡◌, ℕ, All, List, map}
use Rattle.pipe_columns.specs.declared.data_chunk.DataChunk.{DataChunk}
use Rattle.pipe_columns.specs.Frame.{FitsSchema, HoldsTypes}
use Rattle.pipe_model.specs.Output.{key_types}
use Rattle.pipe_model.specs.Query.{QueryTree}
use Rattle.pipe_model.specs.Rows.{HaveDistinctPlaces, total_height}
use Rattle.pipe_spill.specs.SpillRow.{AreRows, spilled}
use Rattle.pipe_spill.specs.declared.spill_row.SpillRow.{SpillRow}
use Rattle.pipe_groups.specs.Holds.{Holds}
use Rattle.pipe_groups.specs.Shape.{shape_of}
use Rattle.pipe_sinks.specs.SoleKeys.{IsSole}
use Rattle.pipe_sinks.specs.Runs.{placed_rows}
use Rattle.pipe_keyed.specs.Tables.{Table}

-- chunks of a query's columns, whose rows have places of their own and number fewer than 2^32
pub record AreTakenChunks (q : QueryTree) (taken : List DataChunk) : Type 0 where
  pub columns : All (λ c. FitsSchema q.schema c.frame) taken
  pub typed : All (λ c. HoldsTypes c.frame) taken
  pub once : HaveDistinctPlaces (placed_rows q taken)
  pub rows : total_height taken < 2 ^ 32

-- what is spilled of the rows of chunks
abbrev pub spilled_rows : QueryTree → List DataChunk → List SpillRow
spilled_rows q chunks = map (spilled (key_types q)) (placed_rows q chunks)

-- a table holds the rows of chunks
pub record HoldsChunks (q : QueryTree) (taken : List DataChunk) (t : Table) : Type 0 where
  pub shape : t.shape ≡ shape_of q
  pub holds : Holds t.shape.prototypes t.groups (spilled_rows q taken)
  pub typed : AreRows t.shape.key_types t.shape.input_types (spilled_rows q taken)

-- a sink of so many partitions has taken chunks
pub record SinkHasTaken (q : QueryTree) (partitions : ℕ) (taken : List DataChunk) (t : Table)
    : Type 0 where
  pub some : 0 < partitions
  pub few : partitions ≤ 2 ^ 32
  pub keyed : IsSole (key_types q)
  pub chunks : AreTakenChunks q taken
  pub kept : HoldsChunks q taken t
