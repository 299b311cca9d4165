-- Whole chunks of whose columns only the wanted ones are known.
use Rattle.std.specs.Prelude.{ℕ, Bool, true, false, List, [], ◌∷◌, map, replicate}
use Rattle.pipe_columns.specs.declared.any_value.AnyValue.TheVariants as av
use Rattle.pipe_columns.specs.declared.data_chunk.DataChunk.{DataChunk}
use Rattle.pipe_columns.specs.declared.schema.Field.{Field}
use Rattle.pipe_columns.specs.Frame.{ColumnData}

-- a column of so many nulls
abbrev pub null_column : ℕ → Field → ColumnData
null_column height f = record {
  name = f.name;
  dtype = f.dtype;
  sorted = false;
  values = replicate height av.Null;
}

-- columns, and one of nulls for each field that isn't wanted
abbrev pub widened_columns :
    ℕ → List Bool → List Field → List ColumnData → List ColumnData
widened_columns height [] fields columns = columns
widened_columns height (w ∷ ws) [] columns = columns
widened_columns height (false ∷ ws) (f ∷ fs) columns =
    null_column height f ∷ widened_columns height ws fs columns
widened_columns height (true ∷ ws) (f ∷ fs) [] = []
widened_columns height (true ∷ ws) (f ∷ fs) (c ∷ cs) = c ∷ widened_columns height ws fs cs

-- chunks of the wanted columns, with nulls in the others
abbrev pub widened_chunks : List Bool → List Field → List DataChunk → List DataChunk
widened_chunks wanted fields chunks = map (λ c. record {
  chunk_index = c.chunk_index;
  frame = record {
    height = c.frame.height;
    columns = widened_columns c.frame.height wanted fields c.frame.columns;
  };
}) chunks
