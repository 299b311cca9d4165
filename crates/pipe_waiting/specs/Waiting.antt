-- Rows that wait as bytes, and what makes bytes those of rows.
use Rattle.std.specs.Prelude.{◌≡◌, ◌<◌, ◌^◌, ◌+◌, ◌++◌, ◌∷◌, [], ℕ, List, All, false, length}
use Rattle.pipe_columns.specs.declared.data_type.DataType.{DataType}
use Rattle.pipe_columns.specs.declared.any_value.AnyValue.{AnyValue}
use Rattle.pipe_columns.specs.declared.place.Place.{Place}
use Rattle.pipe_columns.specs.DataType.{is_string}
use Rattle.pipe_columns.specs.Row.{Row}
use Rattle.pipe_inputs.specs.ChunkRows.{row_at}
use Rattle.pipe_spill.specs.FrameBytes.{row_bytes, rows_bytes}
use Rattle.pipe_spill.specs.KeyTypes.{IsTuple}
use Rattle.pipe_spill.specs.SpillRow.{Payload}
use Rattle.pipe_spill.specs.declared.spill_row.SpillRow.{SpillRow}
use Rattle.pipe_waiting.specs.ReadRows.{read_rows}

-- rows as bytes: how many, their bytes, and for how many bytes room was taken
pub record Waiting : Type 0 where
  pub count : ℕ
  pub bytes : List ℕ
  pub room : ℕ

-- the rows that wait, whose inputs have these types
abbrev pub waiting_rows : List DataType → Waiting → List SpillRow
waiting_rows types w = read_rows types w.count w.bytes

-- the payload that rows as bytes are
abbrev pub payload_read : List DataType → Waiting → Payload
payload_read types w = record { rows = waiting_rows types w }

-- no type is that of texts
abbrev pub HaveNoTexts : List DataType → Type 0
HaveNoTexts types = All (λ t. is_string t ≡ false) types

-- a row that can wait: its place and the length of its key have their bytes, and its inputs these types
pub record CanWait (types : List DataType) (r : SpillRow) : Type 0 where
  pub chunk : r.place.chunk < 2 ^ 32
  pub row : r.place.row < 2 ^ 32
  pub key : length r.key < 2 ^ 64
  pub inputs : IsTuple types r.values

-- bytes are those of so many rows that can wait
pub record HoldRows (types : List DataType) (count : ℕ) (bytes : List ℕ) : Type 0 where
  pub can : All (CanWait types) (read_rows types count bytes)
  pub whole : rows_bytes types (read_rows types count bytes) ≡ bytes

-- what waits is rows whose inputs have these types
abbrev pub AreWaiting : List DataType → Waiting → Type 0
AreWaiting types w = HoldRows types w.count w.bytes

-- the same bytes and as many rows wait, whatever room there is
pub record WaitAsBefore (before after : Waiting) : Type 0 where
  pub count : after.count ≡ before.count
  pub bytes : after.bytes ≡ before.bytes

-- one more row waits, which is read as this row behind the others
pub record HasPushed (types : List DataType) (r : SpillRow) (before after : Waiting) : Type 0 where
  pub count : after.count ≡ before.count + 1
  pub bytes : after.bytes ≡ before.bytes ++ row_bytes types r
  pub typed : AreWaiting types before → AreWaiting types after
  pub rows : AreWaiting types before
      → waiting_rows types after ≡ waiting_rows types before ++ r ∷ []

-- row n of a chunk as it waits: its key's code, its place and its inputs
abbrev pub lent_row : List ℕ → Place → List Row → ℕ → SpillRow
lent_row key place rows n = record { place = place; key = key; values = (row_at rows n).inputs }

-- rows that are still to be given: how many, and their bytes
pub record Left : Type 0 where
  pub count : ℕ
  pub bytes : List ℕ

-- the rows that are left, whose inputs have these types
abbrev pub left_rows : List DataType → Left → List SpillRow
left_rows types a = read_rows types a.count a.bytes

-- the first of the rows that were left is this one, and the others are left
pub record IsNext (types : List DataType) (r : SpillRow) (before after : Left) : Type 0 where
  pub count : before.count ≡ after.count + 1
  pub rows : left_rows types before ≡ r ∷ left_rows types after
  pub bytes : before.bytes ≡ row_bytes types r ++ after.bytes
  pub can : CanWait types r
  pub left : HoldRows types after.count after.bytes

-- the first of the rows that were left has this place and this key, and the others are left
pub record IsNextKey (types : List DataType) (place : Place) (key : List ℕ) (before after : Left) : Type 0 where
  pub values : List AnyValue
  pub next : IsNext types (record { place = place; key = key; values = values }) before after
