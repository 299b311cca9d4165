-- The groups of chunks that come one by one.
use Rattle.std.specs.Prelude.{◌≡◌, List, map, None}
use Rattle.pipe_columns.specs.declared.data_chunk.DataChunk.{DataChunk}
use Rattle.pipe_aggs.specs.declared.query.Query.{Query}
use Rattle.pipe_model.specs.Output.{key_types}
use Rattle.pipe_model.specs.Query.{QueryTree}
use Rattle.pipe_model.specs.Rows.{AreChunksOf, rows}
use Rattle.pipe_spill.specs.SpillRow.{AreRows, spilled}
use Rattle.pipe_spill.specs.declared.spill_row.SpillRow.{SpillRow}
use Rattle.pipe_groups.specs.Holds.{Holds}
use Rattle.pipe_groups.specs.Shape.{shape_of}
use Rattle.pipe_keyed.specs.Tables.{Table}

-- a query, and the chunks that were taken for it, in order
pub record QueryRun : Type 0 where
  pub query : Query
  pub taken : List DataChunk

-- what is spilled of the rows of chunks
abbrev pub spilled_rows : QueryTree → List DataChunk → List SpillRow
spilled_rows q chunks = map (spilled (key_types q)) (rows chunks q)

-- a table without a limit holds the rows of the chunks taken, which the query may be asked of
pub record TableHasTaken (q : QueryTree) (taken : List DataChunk) (t : Table) : Type 0 where
  pub chunks : AreChunksOf q taken
  pub shape : t.shape ≡ shape_of q
  pub limit : t.limit ≡ None
  pub holds : Holds t.shape.prototypes t.groups (spilled_rows q taken)
  pub typed : AreRows t.shape.key_types t.shape.input_types (spilled_rows q taken)
