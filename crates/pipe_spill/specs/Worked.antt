-- Rows of worked frames, and the bytes of their frame.
use Rattle.std.specs.Prelude.{ℕ, pos, List, [], ◌∷◌}
use Rattle.pipe_columns.specs.declared.data_type.DataType.{DataType}
use Rattle.pipe_columns.specs.declared.data_type.DataType.TheVariants as dt
use Rattle.pipe_columns.specs.declared.any_value.AnyValue.TheVariants as av
use Rattle.pipe_columns.specs.Row.{Row}

-- one value of type Int64, as the key and as the input
abbrev pub int64 : List DataType
int64 = dt.Int64 ∷ []

-- row n of chunk 0 with a key and an input of type Int64
abbrev pub row_of : ℕ → ℕ → ℕ → Row
row_of n key input = record {
  place = record { chunk = 0; row = n };
  key = av.Int (pos key) ∷ [];
  inputs = av.Int (pos input) ∷ [];
}

-- rows 1 and 2 of the key 2, with the inputs 6 and 7
abbrev pub two_rows : List Row
two_rows = row_of 1 2 6 ∷ row_of 2 2 7 ∷ []

-- two rows; of each the chunk, the row, the length of the key, the key and the input
abbrev pub two_row_bytes : List ℕ
two_row_bytes =
    0 ∷ 0 ∷ 0 ∷ 0 ∷ 0 ∷ 0 ∷ 0 ∷ 2
    ∷ 0 ∷ 0 ∷ 0 ∷ 0 ∷ 0 ∷ 0 ∷ 0 ∷ 1 ∷ 0 ∷ 0 ∷ 0 ∷ 0 ∷ 0 ∷ 0 ∷ 0 ∷ 9
    ∷ 1 ∷ 128 ∷ 0 ∷ 0 ∷ 0 ∷ 0 ∷ 0 ∷ 0 ∷ 2 ∷ 1 ∷ 128 ∷ 0 ∷ 0 ∷ 0 ∷ 0 ∷ 0 ∷ 0 ∷ 6
    ∷ 0 ∷ 0 ∷ 0 ∷ 0 ∷ 0 ∷ 0 ∷ 0 ∷ 2 ∷ 0 ∷ 0 ∷ 0 ∷ 0 ∷ 0 ∷ 0 ∷ 0 ∷ 9
    ∷ 1 ∷ 128 ∷ 0 ∷ 0 ∷ 0 ∷ 0 ∷ 0 ∷ 0 ∷ 2 ∷ 1 ∷ 128 ∷ 0 ∷ 0 ∷ 0 ∷ 0 ∷ 0 ∷ 0 ∷ 7 ∷ []
