-- The words that ask for keys and for what is shown beside them, option by option.
use Rattle.std.specs.Prelude.{◌≡◌, ◌≢◌, ◌==◌, ◌++◌, ℕ, Bool, true, false, List, [], ◌∷◌, map, flat_map, codes, length, if◌then◌else◌, None}
use Rattle.std.specs.List.{All, list_any}
use Rattle.pipe_columns.specs.declared.data_type.DataType.{DataType}
use Rattle.pipe_columns.specs.declared.data_type.DataType.TheVariants as dt
use Rattle.pipe_aggs.specs.Faults.{has_double}
use Rattle.pipe_words.specs.declared.plan.Format.TheVariants as format
use Rattle.lavzimo_words.specs.Asked.{AskedSeen, ColumnsSeen, of_columns}
use Rattle.lavzimo_words.specs.AskedQuery.{aggs_in, keys_in}
use Rattle.lavzimo_words.specs.Roles.{is_rows, option_of}
use Rattle.lavzimo_words.specs.declared.asked.Order.TheVariants as order
use Rattle.lavzimo_words.specs.declared.asked_column.AskedColumn.{AskedColumn}
use Rattle.lavzimo_words.specs.declared.role.Role.{Role}
use Rattle.lavzimo_words.specs.declared.role.Role.TheVariants as role

-- an option, by its role, and the columns that it asks for
pub record OptionUse : Type 0 where
  pub role : Role
  pub columns : List AskedColumn

-- how a type is written; none of 128 bits is
abbrev pub type_text : DataType → List ℕ
type_text dt.Boolean = codes "bool"
type_text dt.Int8 = codes "i8"
type_text dt.Int16 = codes "i16"
type_text dt.Int32 = codes "i32"
type_text dt.Int64 = codes "i64"
type_text dt.UInt8 = codes "u8"
type_text dt.UInt16 = codes "u16"
type_text dt.UInt32 = codes "u32"
type_text dt.UInt64 = codes "u64"
type_text dt.Int128 = []
type_text dt.Date = codes "date"
type_text dt.String = codes "text"

-- a column as a list writes it: `COLUMN:TYPE=NAME`
abbrev pub piece_of : AskedColumn → List ℕ
piece_of c = (c.column ++ codes ":" ++ type_text c.dtype) ++ codes "=" ++ c.name

-- columns between commas
abbrev pub list_of : List AskedColumn → List ℕ
list_of [] = []
list_of (c ∷ []) = piece_of c
list_of (c ∷ d ∷ cs) = piece_of c ++ codes "," ++ list_of (d ∷ cs)

-- the word of an option: its name, and behind it its list, but where rows are counted
abbrev pub word_of : OptionUse → List ℕ
word_of u =
    if is_rows u.role then codes "--count"
    else codes "--" ++ option_of u.role ++ codes "=" ++ list_of u.columns

-- options, and then files
abbrev pub words_of : List OptionUse → List (List ℕ) → List (List ℕ)
words_of uses files = map word_of uses ++ codes "--" ∷ files

-- the columns that options ask for: the keys, and then the others in the order of their options
abbrev pub columns_of : List OptionUse → List AskedColumn
columns_of uses =
    keys_in (flat_map (λ u. u.columns) uses) ++ aggs_in (flat_map (λ u. u.columns) uses)

-- columns of all rows, by their keys
abbrev pub by_keys : List AskedColumn → ColumnsSeen
by_keys columns = record { columns = columns; order = order.Key; offset = 0; limit = None }

-- what these words ask: the columns by their keys, as CSV and with what stands where nothing is said
abbrev pub asked_by : List OptionUse → List (List ℕ) → AskedSeen
asked_by uses files = record {
  question = of_columns (by_keys (columns_of uses));
  format = format.Csv;
  workers = None;
  partitions = 16;
  spill_dir = None;
  files = files;
}

-- a text has a byte
abbrev pub has : ℕ → List ℕ → Bool
has b text = list_any (λ x. x == b) text

-- a column can be written in a list: it has a name and is shown under one, of which neither has a
-- comma, nor the latter an equals sign
pub record CanBeListed (c : AskedColumn) : Type 0 where
  pub column : length c.column ≢ 0
  pub name : length c.name ≢ 0
  pub column_comma : has 44 c.column ≡ false
  pub name_comma : has 44 c.name ≡ false
  pub name_equals : has 61 c.name ≡ false

-- the number of rows under its usual name, which needs none in a list
abbrev pub rows_alone : AskedColumn
rows_alone = record { role = role.Rows; column = []; dtype = dt.String; name = codes "count" }

-- an option can be written: it asks for columns of its role, where rows are counted for their number
-- alone, and else for such as can be listed
pub record CanBeWritten (u : OptionUse) : Type 0 where
  pub some : length u.columns ≢ 0
  pub roles : All (λ c. c.role ≡ u.role) u.columns
  pub counted : is_rows u.role ≡ true → u.columns ≡ rows_alone ∷ []
  pub listed : is_rows u.role ≡ false → All CanBeListed u.columns

-- options that can be written, of which none stands twice
pub record AreWritable (uses : List OptionUse) : Type 0 where
  pub each : All CanBeWritten uses
  pub once : has_double (map (λ u. option_of u.role) uses) ≡ false
