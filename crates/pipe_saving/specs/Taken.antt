-- Chunks that were taken to be saved.
use Rattle.std.specs.Prelude.{ℕ, List, All, map}
use Rattle.pipe_columns.specs.declared.data_chunk.DataChunk.{DataChunk}
use Rattle.pipe_columns.specs.Frame.{HoldsTypes}
use Rattle.pipe_aggs.specs.declared.query.Query.{Query}
use Rattle.pipe_groups.specs.Shape.{shape_of}
use Rattle.pipe_keyed.specs.Tables.{Table}
use Rattle.pipe_model.specs.Output.{key_types}
use Rattle.pipe_model.specs.Query.{QueryTree}
use Rattle.pipe_model.specs.Rows.{rows_from}
use Rattle.pipe_saving.specs.declared.extent.Extent.{Extent}
use Rattle.pipe_saving.specs.Extents.{IsFed}
use Rattle.pipe_saving.specs.Refusals.{AllFit, AreFew}
use Rattle.pipe_spill.specs.SpillRow.{spilled}
use Rattle.pipe_spill.specs.declared.spill_row.SpillRow.{SpillRow}

-- a query, the position of the first chunk, and the chunks that were taken, in order
pub record SavingSeen : Type 0 where
  pub query : Query
  pub first : ℕ
  pub taken : List DataChunk

-- what is spilled of the rows of chunks, of which the first has a position
abbrev pub spilled_from : QueryTree → ℕ → List DataChunk → List SpillRow
spilled_from q first chunks = map (spilled (key_types q)) (rows_from q first chunks)

-- chunks were taken: they fit the query and are few, and a table with extents is fed their rows
pub record HasTaken (q : QueryTree) (first : ℕ) (taken : List DataChunk) (t : Table)
    (extents : List Extent) : Type 0 where
  pub fit : AllFit q.schema taken
  pub typed : All (λ c. HoldsTypes c.frame) taken
  pub few : AreFew first taken
  pub fed : IsFed (shape_of q) (spilled_from q first taken) t extents
