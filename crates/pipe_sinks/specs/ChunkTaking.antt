-- Of the proofs alone: a chunk whose rows a table takes.
use Rattle.std.specs.Prelude.{◌≡◌, ◌<◌, ◌^◌, All, List}
use Rattle.pipe_columns.specs.declared.data_chunk.DataChunk.{DataChunk}
use Rattle.pipe_columns.specs.Row.{Row}
use Rattle.pipe_aggs.specs.declared.query.Query.{Query}
use Rattle.pipe_aggs.specs.CheckedQuery.{input_types}
use Rattle.pipe_aggs.specs.QueryTrees.{query_tree}
use Rattle.pipe_inputs.specs.RowTypes.{IsRowOf}
use Rattle.pipe_model.specs.Output.{key_types}
use Rattle.pipe_model.specs.Query.{QueryTree}
use Rattle.pipe_model.specs.Rows.{chunk_rows}
use Rattle.pipe_spill.specs.SpillRow.{AreRows}
use Rattle.pipe_groups.specs.Holds.{HoldFewer}
use Rattle.pipe_groups.specs.Shape.{shape_of}
pub use Rattle.pipe_sinks.specs.SoleKeys.{AreGivenKeys, AreKeysOf, IsSole}
use Rattle.pipe_keyed.specs.Tables.{Table}
use Rattle.pipe_keyed.specs.TakenRows.{spilled_first, TookFirstRows}

-- what a table of a query needs to take the rows of a chunk
pub record TakesRows (query : Query) (c : DataChunk) (rows : List Row) (t : Table) : Type 0 where
  pub rows_are : rows ≡ chunk_rows (query_tree query) c.chunk_index c.frame
  pub typed : All (IsRowOf (query_tree query)) rows
  pub index : c.chunk_index < 2 ^ 32
  pub height : c.frame.height < 2 ^ 32
  pub shape : t.shape ≡ shape_of (query_tree query)
  pub sole : IsSole (key_types (query_tree query))
  pub few : HoldFewer t.shape t.groups c.frame.height

-- a table that took all rows of a chunk
pub record TookChunk (q : QueryTree) (c : DataChunk) (old now : Table) : Type 0 where
  pub took : TookFirstRows q c.chunk_index c.frame c.frame.height old now
  pub typed : AreRows (key_types q) (input_types q) (spilled_first q c.chunk_index c.frame c.frame.height)
