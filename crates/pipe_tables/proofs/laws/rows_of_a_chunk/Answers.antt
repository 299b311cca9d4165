use Rattle.std.proofs.Common.{refl}
use Rattle.pipe_model.specs.Rows.{chunk_rows}
use Rattle.pipe_tables.proofs.ChunkValues.{chunk-values}
use Rattle.pipe_tables.proofs.laws.rows_of_a_chunk.Goals as goal

pub returns : goal.returns
returns c = λ q i frame. chunk-values q i frame (chunk_rows q i frame) refl
