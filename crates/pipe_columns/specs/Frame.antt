-- Columns and frames as data.
use Rattle.std.specs.Prelude.{◌≡◌, ◌==◌, Bool, true, false, List, [], ◌∷◌, ◌++◌, ℕ, ◌+◌, ◌-◌, min, length, map, take, Some, unwrap_or}
use Rattle.std.specs.List.{All, list_all, slice_get}
use Rattle.pipe_columns.specs.declared.data_type.DataType.{DataType}
use Rattle.pipe_columns.specs.declared.any_value.AnyValue.{AnyValue}
use Rattle.pipe_columns.specs.declared.any_value.AnyValue.TheVariants as av
use Rattle.pipe_columns.specs.declared.schema.Field.{Field}
use Rattle.pipe_columns.specs.AnyValue.{fits, HasUtf8}
use Rattle.pipe_columns.specs.Slice.{sliced}

-- a column: a name, a type, a flag of whoever made it, and values
pub record ColumnData : Type 0 where
  pub name : List ℕ
  pub dtype : DataType
  pub sorted : Bool
  pub values : List AnyValue

-- a frame: how many rows it has, and columns of so many values
pub record FrameData : Type 0 where
  pub height : ℕ
  pub columns : List ColumnData

-- whether all values fit a type
abbrev pub all_fit : DataType → List AnyValue → Bool
all_fit t values = list_all (λ v. fits v t) values

-- all values fit a type
abbrev pub AllFit : DataType → List AnyValue → Type 0
AllFit t values = all_fit t values ≡ true

-- what a column keeps of its values: each fits the type, and each text is in UTF-8
pub record AreOfType (t : DataType) (values : List AnyValue) : Type 0 where
  pub fit : AllFit t values
  pub utf8 : All HasUtf8 values

-- whether all columns have so many values
abbrev pub all_have_height : ℕ → List ColumnData → Bool
all_have_height n columns = list_all (λ c. length c.values == n) columns

-- all columns have so many values
abbrev pub AllHaveHeight : ℕ → List ColumnData → Type 0
AllHaveHeight n columns = all_have_height n columns ≡ true

-- the field of a column
abbrev pub field_of : ColumnData → Field
field_of c = record { name = c.name; dtype = c.dtype }

-- the fields of columns
abbrev pub fields_of : List ColumnData → List Field
fields_of columns = map field_of columns

-- a frame has the names and the types of fields, in order
abbrev pub FitsSchema : List Field → FrameData → Type 0
FitsSchema fields frame = fields_of frame.columns ≡ fields

-- the value at a place of a list, null past its end
abbrev pub value_at : List AnyValue → ℕ → AnyValue
value_at values i = unwrap_or (slice_get values i) av.Null

-- the columns of rows, from the place i of each row on
abbrev pub columns_from : ℕ → List Field → List (List AnyValue) → List ColumnData
columns_from i [] rows = []
columns_from i (f ∷ fs) rows =
    record {
      name = f.name;
      dtype = f.dtype;
      sorted = false;
      values = map (λ row. value_at row i) rows;
    } ∷ columns_from (i + 1) fs rows

-- the frame of a schema with these rows
abbrev pub frame_of : List Field → List (List AnyValue) → FrameData
frame_of fields rows = record { height = length rows; columns = columns_from 0 fields rows }

-- the values of the row at a place
abbrev pub row_at : List ColumnData → ℕ → List AnyValue
row_at columns i = map (λ c. value_at c.values i) columns

-- a column with the values of another below its own
abbrev pub appended : ColumnData → ColumnData → ColumnData
appended c d = record c { values = c.values ++ d.values }

-- columns with the values of others below their own, one by one
abbrev pub appended_all : List ColumnData → List ColumnData → List ColumnData
appended_all [] cs = cs
appended_all (d ∷ ds) [] = []
appended_all (d ∷ ds) (c ∷ cs) = appended c d ∷ appended_all ds cs

-- a column with its flag cleared
abbrev pub unsorted : ColumnData → ColumnData
unsorted c = record c { sorted = false }

-- a frame with the rows of another below its own
abbrev pub stacked : FrameData → FrameData → FrameData
stacked f g = record {
  height = f.height + g.height;
  columns = map unsorted (appended_all g.columns f.columns);
}

-- the first values of a column
abbrev pub truncated : ℕ → ColumnData → ColumnData
truncated len c = record c { values = take len c.values }

-- a column without its first values, and with so many of the rest at most
abbrev pub sliced_column : ℕ → ℕ → ColumnData → ColumnData
sliced_column offset len c = record c { values = sliced (Some (offset, len)) c.values }

-- a frame without its first rows, and with so many of the rest at most
abbrev pub sliced_frame : ℕ → ℕ → FrameData → FrameData
sliced_frame offset len f = record {
  height = min len (f.height - offset);
  columns = map (sliced_column offset len) f.columns;
}

-- the values of columns fit their types
abbrev pub ColumnsFit : List ColumnData → Type 0
ColumnsFit columns = All (λ c. AllFit c.dtype c.values) columns

-- the texts in columns are in UTF-8
abbrev pub ColumnsHaveUtf8 : List ColumnData → Type 0
ColumnsHaveUtf8 columns = All (λ c. All HasUtf8 c.values) columns

-- each value of a frame fits its column's type, and each text is in UTF-8, as in every frame
pub record HoldsTypes (frame : FrameData) : Type 0 where
  pub fit : ColumnsFit frame.columns
  pub utf8 : ColumnsHaveUtf8 frame.columns

-- what a frame keeps of its columns: each has a value for each row, of its type
pub record IsFrame (frame : FrameData) : Type 0 where
  pub height : AllHaveHeight frame.height frame.columns
  pub types : HoldsTypes frame
