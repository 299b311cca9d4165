-- The columns that are shown: each with its type, and under a name of its own.
use Rattle.std.specs.Prelude.{ℕ, ◌==◌, ◌&&◌, Bool, true, not, List, [], ◌∷◌, length, bytes_eq, find, if◌then◌else◌, Option, Some, None, is_some, option_and_then, unwrap_or, Result, Ok, Err}
use Rattle.std.specs.List.{list_any}
use Rattle.pipe_columns.specs.declared.data_type.DataType.{DataType}
use Rattle.pipe_columns.specs.declared.data_type.DataType.TheVariants as dt
use Rattle.pipe_columns.specs.DataType.{same_type}
use Rattle.lavzimo_words.specs.Items.{items_of}
use Rattle.lavzimo_words.specs.Results.{each_ok, on_ok}
use Rattle.lavzimo_words.specs.Roles.{is_of_numbers, option_of, suits}
use Rattle.lavzimo_words.specs.declared.item.Item.{Item}
use Rattle.lavzimo_words.specs.declared.role.Role.{Role}
use Rattle.lavzimo_words.specs.declared.asked_column.AskedColumn.{AskedColumn}
use Rattle.lavzimo_words.specs.declared.refusal.Refusal.{Refusal}
use Rattle.lavzimo_words.specs.declared.refusal.Refusal.TheVariants as refusal

-- the first item of a column of which a type is said
abbrev pub said_item : List Item → List ℕ → Option Item
said_item items column = find (λ i. bytes_eq i.column column && is_some i.said) items

-- the first type that a column is said to have
abbrev pub said_type : List Item → List ℕ → Option DataType
said_type items column = option_and_then (λ i. i.said) (said_item items column)

-- whether numbers of a column are added or compared
abbrev pub has_numbers : List Item → List ℕ → Bool
has_numbers items column = list_any (λ i. bytes_eq i.column column && is_of_numbers i.role) items

-- the type of a column of which none is said: int where its numbers are added or compared, or else text
abbrev pub usual_type : List Item → List ℕ → DataType
usual_type items column = if has_numbers items column then dt.Int64 else dt.String

-- the type of a column
abbrev pub column_type : List Item → List ℕ → DataType
column_type items column = unwrap_or (said_type items column) (usual_type items column)

-- whether a type is the one that is said, if one is
abbrev pub is_as_said : Option DataType → DataType → Bool
is_as_said None t = true
is_as_said (Some u) t = same_type u t

-- an item as a shown column of a type
abbrev pub shown_as : Item → DataType → Result AskedColumn Refusal
shown_as i t =
    if not (is_as_said i.said t) then Err (refusal.TwoTypes i.column)
    else (if not (suits i.role t) then Err (refusal.Unsuited (option_of i.role) i.column t)
    else Ok (record { role = i.role; column = i.column; dtype = t; name = i.name }))

-- all items as shown columns: a column has one type
abbrev pub shown_all : List Item → Result (List AskedColumn) Refusal
shown_all items = each_ok (λ i. shown_as i (column_type items i.column)) items

-- whether a column has a name
abbrev pub has_name : List AskedColumn → List ℕ → Bool
has_name columns name = list_any (λ c. bytes_eq c.name name) columns

-- the first name that stands again behind itself
abbrev pub first_double : List AskedColumn → Option (List ℕ)
first_double [] = None
first_double (c ∷ cs) = if has_name cs c.name then Some c.name else first_double cs

-- shown columns that have no name twice
abbrev pub unless_double : List AskedColumn → Option (List ℕ) → Result (List AskedColumn) Refusal
unless_double shown None = Ok shown
unless_double shown (Some name) = Err (refusal.DoubleName name)

-- shown columns of which there is one, and of which no two have one name
abbrev pub told_apart : List AskedColumn → Result (List AskedColumn) Refusal
told_apart shown =
    if length shown == 0 then Err refusal.NothingAsked
    else unless_double shown (first_double shown)

-- the shown columns that pieces ask for
abbrev pub shown_of : List (Role × List ℕ) → Result (List AskedColumn) Refusal
shown_of pieces = on_ok told_apart (on_ok shown_all (items_of pieces))
