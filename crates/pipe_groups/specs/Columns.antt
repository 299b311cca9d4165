-- Of the proofs alone: columns that are filled row by row.
use Rattle.std.specs.Prelude.{◌≡◌, ◌+◌, ◌≤◌, ℕ, zero, suc, false, List, [], ◌∷◌, ◌++◌, map, fold, drop, vec_len, vec_capacity}
use Rattle.std.specs.List.{All, AllZip}
use Rattle.pipe_columns.specs.declared.any_value.AnyValue.{AnyValue}
use Rattle.pipe_columns.specs.declared.data_type.DataType.{DataType}
use Rattle.pipe_columns.specs.declared.schema.Field.{Field}
use Rattle.pipe_columns.specs.Frame.{ColumnData, columns_from}
use Rattle.pipe_columns.specs.Key.{code}
use Rattle.pipe_spill.specs.KeyTypes.{IsTuple}
use Rattle.pipe_groups.specs.declared.unfinished.Unfinished.{Unfinished}

-- a column in the making, as it stands
abbrev pub column_of_unfinished : Unfinished → ColumnData
column_of_unfinished c = record {
  name = c.field.name;
  dtype = c.field.dtype;
  sorted = false;
  values = c.values.items;
}

-- columns in the making, as they stand
abbrev pub columns_of_unfinished : List Unfinished → List ColumnData
columns_of_unfinished cs = map column_of_unfinished cs

-- the types of columns
abbrev pub types_of : List ColumnData → List DataType
types_of cs = map (λ c. c.dtype) cs

-- a column with one more value
abbrev pub with_value : AnyValue → ColumnData → ColumnData
with_value v c = record c { values = c.values ++ v ∷ [] }

-- columns with one more row
abbrev pub with_values : List AnyValue → List ColumnData → List ColumnData
with_values [] cs = cs
with_values (v ∷ vs) [] = []
with_values (v ∷ vs) (c ∷ cs) = with_value v c ∷ with_values vs cs

-- columns with one more value each from position k on, as far as there are values
abbrev pub with_values_at : ℕ → List AnyValue → List ColumnData → List ColumnData
with_values_at zero vs cs = with_values vs cs
with_values_at (suc k) vs [] = []
with_values_at (suc k) vs (c ∷ cs) = c ∷ with_values_at k vs cs

-- columns with more rows
abbrev pub with_rows : List (List AnyValue) → List ColumnData → List ColumnData
with_rows rows cs = fold (λ done row. with_values row done) cs rows

-- each column has memory for so many more values
abbrev pub HaveRoom : ℕ → List Unfinished → Type 0
HaveRoom n cs = All (λ c. vec_len c.values + n ≤ vec_capacity c.values) cs

-- so has each, and for one more from position k on
pub record HaveRoomFrom (n k : ℕ) (cs : List Unfinished) : Type 0 where
  pub all : HaveRoom n cs
  pub more : HaveRoom (n + 1) (drop k cs)

-- columns have one more row: the tuple whose code is a key
pub record HaveKey (before : List ColumnData) (key : List ℕ) (after : List ColumnData)
    : Type 0 where
  pub tuple : List AnyValue
  pub is_tuple : IsTuple (types_of before) tuple
  pub code_is : code (types_of before) tuple ≡ key
  pub put : after ≡ with_values tuple before

-- a row is the tuple of some types whose code is a key
pub record IsTupleOf (types : List DataType) (key : List ℕ) (row : List AnyValue) : Type 0 where
  pub is_tuple : IsTuple types row
  pub code_is : code types row ≡ key

-- columns of fields have a row for each key
pub record HaveKeys (types : List DataType) (fields : List Field) (keys : List (List ℕ))
    (columns : List ColumnData) : Type 0 where
  pub rows : List (List AnyValue)
  pub each : AllZip (IsTupleOf types) keys rows
  pub are : columns ≡ columns_from 0 fields rows
