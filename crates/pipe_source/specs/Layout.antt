-- Of the proofs alone: rows of which some fields are read, by their places.
use Rattle.std.specs.Prelude.{◌≡◌, ◌<◌, ◌+◌, ◌==◌, ℕ, Bool, true, false, List, [], ◌∷◌, length, map, get_or, Option, Some, None, if◌then◌else◌, ⊤}
use Rattle.std.specs.Str.{bytes_eq}
use Rattle.pipe_columns.specs.declared.schema.Field.{Field}
use Rattle.pipe_scan.specs.Records.{Records}
use Rattle.pipe_source.specs.NamedRows.{fields_at}
use Rattle.pipe_source.specs.declared.layout.Layout.{Layout}

-- the place of the first field that is a name, counted from one on
abbrev pub first_place : List ℕ → ℕ → List (List ℕ) → Option ℕ
first_place name i [] = None
first_place name i (t ∷ ts) = if bytes_eq name t then Some i else first_place name (i + 1) ts

-- each column has a place among so many fields
pub record ArePlacedIn (columns : List Field) (count : ℕ) (places : List ℕ) : Type 0 where
  pub many : length places ≡ length columns
  pub within : (k : ℕ) → k < length places → get_or places k 0 < count

-- so it has in a layout
abbrev pub FitsLayout : List Field → Layout → Type 0
FitsLayout columns l = ArePlacedIn columns l.count l.places.items

-- a file whose columns are found by their names has a layout that they fit, and any other has none
abbrev pub LayoutFits : List Field → Bool → Option Layout → Type 0
LayoutFits columns by_name None = by_name ≡ false
LayoutFits columns by_name (Some l) = (by_name ≡ true) × FitsLayout columns l

-- where there is a layout, the columns fit it
abbrev pub FitsAny : List Field → Option Layout → Type 0
FitsAny columns None = ⊤
FitsAny columns (Some l) = FitsLayout columns l

-- where there is a layout, the columns fit it, and all are wanted
abbrev pub IsWholeLayout : List Field → List Bool → Option Layout → Type 0
IsWholeLayout columns wanted None = ⊤
IsWholeLayout columns wanted (Some l) = FitsLayout columns l × (wanted ≡ [])

-- the fields of a record that are read, and one more where the record has another number of fields, so
-- that it is no row
abbrev pub picked : Layout → List (List ℕ) → List (List ℕ)
picked l texts =
    if length texts == l.count then fields_at l.places.items texts
    else [] ∷ fields_at l.places.items texts

-- the same, or all fields where there is no layout
abbrev pub laid_record : Option Layout → List (List ℕ) → List (List ℕ)
laid_record None texts = texts
laid_record (Some l) texts = picked l texts

-- so of each record
abbrev pub laid : Option Layout → Records → Records
laid None records = records
laid (Some l) records = map (picked l) records
