-- The columns of a frame that is made of rows are not flagged as sorted.
use Rattle.std.proofs.Common.{◌≡◌, ℕ, ◌+◌, false, List, [], ◌∷◌, map, refl}
use Rattle.std.specs.List.{All}
use Rattle.std.proofs.lemmas.List.Elements.{All-cons, All-nil}
use Rattle.pipe_columns.specs.declared.any_value.AnyValue.{AnyValue}
use Rattle.pipe_columns.specs.declared.schema.Field.{Field}
use Rattle.pipe_columns.specs.Frame.{ColumnData, columns_from, frame_of, value_at}

-- a column has no flag
abbrev IsUnsorted : ColumnData → Type 0
IsUnsorted c = c.sorted ≡ false

-- columns of rows have none
columns-unsorted : (i : ℕ) (fields : List Field) (rows : List (List AnyValue)) → All IsUnsorted (columns_from i fields rows)
columns-unsorted i [] rows = All-nil IsUnsorted
columns-unsorted i (f ∷ fs) rows =
    let first : ColumnData = record { name = f.name; dtype = f.dtype; sorted = false; values = map (λ row. value_at row i) rows } in
    All-cons IsUnsorted first (columns_from (i + 1) fs rows) refl (columns-unsorted (i + 1) fs rows)

-- so of a frame of rows
pub frame-unsorted : (fields : List Field) (rows : List (List AnyValue)) → All (λ c. c.sorted ≡ false) (frame_of fields rows).columns
frame-unsorted fields rows = columns-unsorted 0 fields rows
