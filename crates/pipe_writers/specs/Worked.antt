-- Inputs of worked rows.
use Rattle.std.specs.Prelude.{ℕ, pos, List, [], ◌∷◌, codes}
use Rattle.pipe_columns.specs.declared.data_type.DataType.TheVariants as dt
use Rattle.pipe_columns.specs.declared.any_value.AnyValue.{AnyValue}
use Rattle.pipe_columns.specs.declared.any_value.AnyValue.TheVariants as av
use Rattle.pipe_columns.specs.declared.data_chunk.DataChunk.{DataChunk}
use Rattle.pipe_columns.specs.declared.schema.Field.{Field}
use Rattle.pipe_columns.specs.Frame.{frame_of}
use Rattle.pipe_lines.specs.Rows.{Row}

-- one column of texts
abbrev pub one_text : List Field
one_text = record { name = codes "t"; dtype = dt.String } ∷ []

-- a chunk of a number and of rows of one text
abbrev pub chunk_of : ℕ → List Row → DataChunk
chunk_of n rows = record { chunk_index = n; frame = frame_of one_text rows }

-- a row of one text
abbrev pub text_row : List ℕ → Row
text_row s = av.Text s ∷ []

-- a number that isn't below 0, as a value
abbrev pub int : ℕ → AnyValue
int n = av.Int (pos n)
