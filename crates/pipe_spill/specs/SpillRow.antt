-- Rows that are spilled, payloads of them, and which rows stand in a frame of given types.
use Rattle.std.specs.Prelude.{◌≡◌, ◌<◌, ◌^◌, ℕ, List, map, All}
use Rattle.std.specs.List.{flat_map}
use Rattle.pipe_columns.specs.declared.data_type.DataType.{DataType}
use Rattle.pipe_columns.specs.declared.any_value.AnyValue.{AnyValue}
use Rattle.pipe_columns.specs.Key.{code}
use Rattle.pipe_columns.specs.Row.{Row}
use Rattle.pipe_spill.specs.KeyTypes.{AreOfTypes, IsTuple}
use Rattle.pipe_spill.specs.declared.spill_row.SpillRow.{SpillRow}

-- the rows of a payload
pub record Payload : Type 0 where
  pub rows : List SpillRow

-- the rows of payloads, joined in order
abbrev pub joined_rows : List Payload → List SpillRow
joined_rows payloads = flat_map (λ p. p.rows) payloads

-- the row that is spilled: its place, the code of its key, and its inputs
abbrev pub spilled : List DataType → Row → SpillRow
spilled key_types r = record { place = r.place; key = code key_types r.key; values = r.inputs }

-- the payload that rows make
abbrev pub payload_of : List DataType → List Row → Payload
payload_of key_types rows = record { rows = map (spilled key_types) rows }

-- each row has inputs of these types
abbrev pub HaveInputs : List DataType → List SpillRow → Type 0
HaveInputs types rows = All (λ r. AreOfTypes types r.values) rows

-- the code of a tuple of the key types
abbrev pub IsKey : List DataType → List ℕ → Type 0
IsKey types key = (values : List AnyValue) × IsTuple types values × (code types values ≡ key)

-- a row that a program can spill, with the values of a key and of inputs of these types
pub record HasValues (key_types input_types : List DataType) (r : Row) : Type 0 where
  pub chunk : r.place.chunk < 2 ^ 32
  pub row : r.place.row < 2 ^ 32
  pub key : IsTuple key_types r.key
  pub inputs : IsTuple input_types r.inputs

-- a row that a program can have spilled, with a key and inputs of these types
pub record IsRow (key_types input_types : List DataType) (r : SpillRow) : Type 0 where
  pub chunk : r.place.chunk < 2 ^ 32
  pub row : r.place.row < 2 ^ 32
  pub key : IsKey key_types r.key
  pub inputs : IsTuple input_types r.values

-- each is a row with a key and inputs of these types
abbrev pub AreRows : List DataType → List DataType → List SpillRow → Type 0
AreRows key_types input_types rows = All (IsRow key_types input_types) rows
