-- A row of worked bytes with inputs of several types.
use Rattle.std.specs.Prelude.{ℕ, pos, negsuc, true, List, [], ◌∷◌}
use Rattle.pipe_columns.specs.declared.data_type.DataType.{DataType}
use Rattle.pipe_columns.specs.declared.data_type.DataType.TheVariants as dt
use Rattle.pipe_columns.specs.declared.any_value.AnyValue.TheVariants as av
use Rattle.pipe_spill.specs.declared.spill_row.SpillRow.{SpillRow}

-- a text, a truth value, a signed number, an unsigned one and a date
abbrev pub mixed_types : List DataType
mixed_types = dt.String ∷ dt.Boolean ∷ dt.Int8 ∷ dt.UInt16 ∷ dt.Date ∷ []

-- row 258 of chunk 3 with a key of two bytes: the text of NUL and a, true, -2, 515 and a null
abbrev pub mixed_row : SpillRow
mixed_row = record {
  place = record { chunk = 3; row = 258 };
  key = 7 ∷ 8 ∷ [];
  values = av.Text (0 ∷ 97 ∷ []) ∷ av.Boolean true ∷ av.Int (negsuc 1) ∷ av.Int (pos 515) ∷ av.Null ∷ [];
}

-- its chunk, its row, the length of its key, its key and each input
abbrev pub mixed_bytes : List ℕ
mixed_bytes =
    0 ∷ 0 ∷ 0 ∷ 3 ∷ 0 ∷ 0 ∷ 1 ∷ 2 ∷ 0 ∷ 0 ∷ 0 ∷ 0 ∷ 0 ∷ 0 ∷ 0 ∷ 2 ∷ 7 ∷ 8
    ∷ 1 ∷ 0 ∷ 1 ∷ 97 ∷ 0 ∷ 0 ∷ 1 ∷ 1 ∷ 1 ∷ 126 ∷ 1 ∷ 2 ∷ 3 ∷ 0 ∷ []
