-- Of the proofs alone: rows as columns.
use Rattle.std.specs.Prelude.{◌≡◌, ℕ, ◌+◌, List, [], ◌∷◌, ◌++◌, length, map, ⊤}
use Rattle.pipe_columns.specs.declared.schema.Field.{Field}
use Rattle.pipe_columns.specs.Frame.{AreOfType, ColumnData, value_at}
use Rattle.pipe_columns.specs.declared.any_value.AnyValue.{AnyValue}
use Rattle.pipe_csv.specs.CsvRows.{is_ascending}

-- lists of values with one more value at the end of each
abbrev pub with_row : List AnyValue → List (List AnyValue) → List (List AnyValue)
with_row [] columns = columns
with_row (v ∷ vs) [] = []
with_row (v ∷ vs) (c ∷ cs) = (c ++ (v ∷ [])) ∷ with_row vs cs

-- the values of rows by column, from the place i of each row on
abbrev pub values_from : ℕ → List Field → List (List AnyValue) → List (List AnyValue)
values_from i [] rows = []
values_from i (f ∷ fs) rows = map (λ row. value_at row i) rows ∷ values_from (i + 1) fs rows

-- a column of a field that tells whether its values ascend
abbrev pub column_of : Field → List AnyValue → ColumnData
column_of f values = record {
  name = f.name;
  dtype = f.dtype;
  sorted = is_ascending values;
  values = values;
}

-- the columns of fields and their values
abbrev pub columns_of : List Field → List (List AnyValue) → List ColumnData
columns_of [] columns = []
columns_of (f ∷ fs) [] = []
columns_of (f ∷ fs) (c ∷ cs) = column_of f c ∷ columns_of fs cs

-- each column has so many values, and they are of its field's type
abbrev pub DoHold : ℕ → List Field → List (List AnyValue) → Type 0
DoHold n [] columns = ⊤
DoHold n (f ∷ fs) [] = ⊥
DoHold n (f ∷ fs) (c ∷ cs) = AreOfType f.dtype c × (length c ≡ n) × DoHold n fs cs
