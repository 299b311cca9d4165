-- Inputs of worked fields and frames.
use Rattle.std.specs.Prelude.{ℕ, pos, List, [], ◌∷◌, codes}
use Rattle.pipe_columns.specs.declared.data_type.DataType.TheVariants as dt
use Rattle.pipe_columns.specs.declared.any_value.AnyValue.{AnyValue}
use Rattle.pipe_columns.specs.declared.any_value.AnyValue.TheVariants as av
use Rattle.pipe_columns.specs.declared.schema.Field.{Field}

-- a key k and a value v of Int64
abbrev pub key_value : List Field
key_value =
    record { name = codes "k"; dtype = dt.Int64 }
    ∷ record { name = codes "v"; dtype = dt.Int64 } ∷ []

-- a number that isn't below 0, as a value
abbrev pub int : ℕ → AnyValue
int n = av.Int (pos n)
