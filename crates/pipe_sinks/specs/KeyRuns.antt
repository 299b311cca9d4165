-- Of the proofs alone: rows of a chunk that follow one another and have one key.
use Rattle.std.specs.Prelude.{◌≡◌, ◌+◌, ◌<◌, ◌≤◌, ◌^◌, ℕ, List, length, map, take, drop}
use Rattle.pipe_columns.specs.declared.data_type.DataType.{DataType}
use Rattle.pipe_columns.specs.Row.{Row}
use Rattle.pipe_inputs.specs.ChunkRows.{row_at}
use Rattle.pipe_spill.specs.KeyTypes.{AreOfTypes}
use Rattle.pipe_spill.specs.SpillRow.{AreRows, spilled}
use Rattle.pipe_spill.specs.declared.spill_row.SpillRow.{SpillRow}
use Rattle.pipe_groups.specs.Shape.{Shape}

-- what is spilled of so many rows from one on
abbrev pub run_rows : List DataType → List Row → ℕ → ℕ → List SpillRow
run_rows types rows row len = map (spilled types) (take len (drop row rows))

-- some rows from one on, each at its own number in one chunk, with the key of the first, of a shape
pub record IsRun (s : Shape) (rows : List Row) (row len : ℕ) : Type 0 where
  pub some : 0 < len
  pub there : row + len ≤ length rows
  pub placed : row + len < 2 ^ 32
  pub at : (n : ℕ) → n < length rows
      → (row_at rows n).place ≡ record { chunk = (row_at rows row).place.chunk; row = n }
  pub same : (n : ℕ) → row ≤ n → n < row + len → (row_at rows n).key ≡ (row_at rows row).key
  pub key : AreOfTypes s.key_types (row_at rows row).key
  pub typed : AreRows s.key_types s.input_types (run_rows s.key_types rows row len)
