-- Of the proofs alone: a key that is read value by value.
use Rattle.std.specs.Prelude.{◌≡◌, ℕ, List, ◌++◌, drop, length}
use Rattle.pipe_columns.specs.declared.any_value.AnyValue.{AnyValue}
use Rattle.pipe_columns.specs.Frame.{ColumnData}
use Rattle.pipe_columns.specs.Key.{code}
use Rattle.pipe_spill.specs.KeyTypes.{IsTuple}
use Rattle.pipe_groups.specs.Columns.{types_of, with_values}

-- of the tuple whose code is a key so many values stand in columns, and the code of the others is
-- what is left of the key
pub record IsReading (before : List ColumnData) (key : List ℕ) (count : ℕ)
    (after : List ColumnData) (rest : List ℕ) : Type 0 where
  pub done : List AnyValue
  pub others : List AnyValue
  pub is_tuple : IsTuple (types_of before) (done ++ others)
  pub code_is : code (types_of before) (done ++ others) ≡ key
  pub counted : length done ≡ count
  pub rest_is : code (drop count (types_of before)) others ≡ rest
  pub put : after ≡ with_values done before
