-- What lists of columns say, piece by piece: `COLUMN`, `COLUMN:TYPE`, and either with `=NAME`.
use Rattle.std.specs.Prelude.{ℕ, ◌==◌, ◌++◌, ◌||◌, Bool, false, List, [], ◌∷◌, map, length, codes, bytes_eq, flat_map, filter_map, if◌then◌else◌, Option, Some, None, unwrap_or, Result, Ok, Err}
use Rattle.std.specs.List.{slice_split}
use Rattle.std.specs.Option.{option_map_or}
use Rattle.std.specs.Path.{rsplit_once}
use Rattle.clap.specs.Words.{Row, all_of, first_of}
use Rattle.pipe_columns.specs.declared.data_type.DataType.{DataType}
use Rattle.pipe_columns.specs.declared.data_type.DataType.TheVariants as dt
use Rattle.pipe_query.specs.JsonNames.{named}
use Rattle.lavzimo_words.specs.Results.{each_ok}
use Rattle.lavzimo_words.specs.Roles.{is_rows, option_of, prefix_of, role_named}
use Rattle.lavzimo_words.specs.declared.item.Item.{Item}
use Rattle.lavzimo_words.specs.declared.role.Role.{Role}
use Rattle.lavzimo_words.specs.declared.role.Role.TheVariants as role
use Rattle.lavzimo_words.specs.declared.refusal.Refusal.{Refusal}
use Rattle.lavzimo_words.specs.declared.refusal.Refusal.TheVariants as refusal

-- the types that a column may be said to have
abbrev pub type_names : List (List ℕ × DataType)
type_names =
    (codes "text", dt.String) ∷ (codes "int", dt.Int64) ∷ (codes "i8", dt.Int8)
    ∷ (codes "i16", dt.Int16) ∷ (codes "i32", dt.Int32) ∷ (codes "i64", dt.Int64)
    ∷ (codes "u8", dt.UInt8) ∷ (codes "u16", dt.UInt16) ∷ (codes "u32", dt.UInt32)
    ∷ (codes "u64", dt.UInt64) ∷ (codes "bool", dt.Boolean) ∷ (codes "date", dt.Date) ∷ []

-- the type of a name
abbrev pub type_named : List ℕ → Option DataType
type_named = named type_names

-- a column of a text before a type, which is all of the text where there is no such type
abbrev pub typed_as : List ℕ → List ℕ → Option DataType → List ℕ × Option DataType
typed_as text column None = (text, None)
typed_as text column (Some t) = (column, Some t)

-- the column of a text that is cut or not, and the type that it is said to have
abbrev pub typed_by : List ℕ → Option (List ℕ × List ℕ) → List ℕ × Option DataType
typed_by text None = (text, None)
typed_by text (Some cut) = typed_as text cut.0 (type_named cut.1)

-- a column, and the type that stands behind the last colon
abbrev pub typed : List ℕ → List ℕ × Option DataType
typed text = typed_by text (rsplit_once 58 text)

-- what stands before a name, and the name, in a text that is cut or not
abbrev pub titled_by : List ℕ → Option (List ℕ × List ℕ) → List ℕ × Option (List ℕ)
titled_by text None = (text, None)
titled_by text (Some cut) = (cut.0, Some cut.1)

-- what stands before the last `=`, and the name behind it
abbrev pub titled : List ℕ → List ℕ × Option (List ℕ)
titled text = titled_by text (rsplit_once 61 text)

-- a column in a role, with its type where one is said, and its name where one is given
abbrev pub item_as : Role → List ℕ × Option DataType → Option (List ℕ) → Item
item_as r column name = record {
  role = r;
  column = column.0;
  said = column.1;
  name = unwrap_or name (prefix_of r ++ column.0);
}

-- the item that a piece writes
abbrev pub written_item : Role → List ℕ → Item
written_item r piece = item_as r (typed (titled piece).0) (titled piece).1

-- an item whose column and whose name are there
abbrev pub with_names : List ℕ → Item → Result Item Refusal
with_names piece i =
    if length i.column == 0 || length i.name == 0
    then Err (refusal.Nameless (option_of i.role) piece) else Ok i

-- the item of a piece in a role; rows are counted without a piece
abbrev pub item_of : Role → List ℕ → Result Item Refusal
item_of r piece =
    if is_rows r then Ok (item_as r ([], None) None) else with_names piece (written_item r piece)

-- the pieces of an option's values, between commas
abbrev pub pieces_of : Option (List (List ℕ)) → List (List ℕ)
pieces_of None = []
pieces_of (Some values) = flat_map (λ v. slice_split (λ b. b == 44) v) values

-- whether rows are counted
abbrev pub counts_rows : List Row → Bool
counts_rows rows =
    option_map_or (λ t. bytes_eq t (codes "true")) (first_of (codes "count") rows) false

-- the pieces of a role
abbrev pub pieces_for : List Row → Role → List (Role × List ℕ)
pieces_for rows r =
    if is_rows r then (if counts_rows rows then (r, []) ∷ [] else [])
    else map (λ piece. (r, piece)) (pieces_of (all_of (option_of r) rows))

-- the roles: that of keys, and those of the other options in the order of their first use
abbrev pub roles_in : List Row → List Role
roles_in rows = role.Key ∷ filter_map (λ r. role_named r.id) rows

-- all pieces
abbrev pub pieces_in : List Row → List (Role × List ℕ)
pieces_in rows = flat_map (pieces_for rows) (roles_in rows)

-- the items of pieces
abbrev pub items_of : List (Role × List ℕ) → Result (List Item) Refusal
items_of pieces = each_ok (λ p. item_of p.0 p.1) pieces
