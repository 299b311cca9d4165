-- Of the proofs alone: a chunk whose rows are put into a table beside another.
use Rattle.std.specs.Prelude.{◌≡◌, [], ◌∷◌}
use Rattle.pipe_columns.specs.declared.data_chunk.DataChunk.{DataChunk}
use Rattle.pipe_columns.specs.Frame.{HoldsTypes}
use Rattle.pipe_groups.specs.Groups.{AreJoined}
use Rattle.pipe_model.specs.Query.{QueryTree}
use Rattle.pipe_sinks.specs.RunLayout.{HoldsChunks}
use Rattle.pipe_keyed.specs.Tables.{HoldFewTogether, Table}

-- a table may take over another that holds the rows of a chunk
abbrev pub MayTakeOver : QueryTree → DataChunk → Table → Type 0
MayTakeOver q c t = (part : Table) → HoldsTypes c.frame → HoldsChunks q (c ∷ []) part
    → HoldFewTogether t part

-- a table that took over another that held the rows of a chunk
pub record TookOver (q : QueryTree) (c : DataChunk) (old now : Table) : Type 0 where
  pub part : Table
  pub holds : HoldsChunks q (c ∷ []) part
  pub typed : HoldsTypes c.frame
  pub joined : AreJoined old.shape.prototypes old.groups part.groups now.groups
  pub shape : now.shape ≡ old.shape
