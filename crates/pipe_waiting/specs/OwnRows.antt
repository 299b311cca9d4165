-- Of the proofs alone: what bytes tell of the rows of one partition.
use Rattle.std.specs.Prelude.{◌≡◌, ◌≢◌, ◌++◌, ◌%◌, ◌==◌, ℕ, List, true, All, length}
use Rattle.pipe_columns.specs.declared.data_type.DataType.{DataType}
use Rattle.pipe_columns.specs.Key.{fold_bytes}
use Rattle.pipe_spill.specs.FrameBytes.{row_bytes, rows_bytes}
use Rattle.pipe_spill.specs.SpillRow.{IsRow}
use Rattle.pipe_spill.specs.declared.spill_row.SpillRow.{SpillRow}

-- a row of given types whose key lies in a partition
pub record IsOwn (key_types types : List DataType) (partitions number : ℕ) (r : SpillRow) : Type 0 where
  pub is : IsRow key_types types r
  pub lies : (fold_bytes r.key % partitions == number) ≡ true

-- the bytes begin with such a row, and these follow
pub record BeginsOwnRow (key_types types : List DataType) (partitions number : ℕ)
    (bytes rest : List ℕ) : Type 0 where
  pub row : SpillRow
  pub own : IsOwn key_types types partitions number row
  pub front : row_bytes types row ++ rest ≡ bytes

-- the bytes begin with no such row
abbrev pub BeginsNoOwnRow : List DataType → List DataType → ℕ → ℕ → List ℕ → Type 0
BeginsNoOwnRow key_types types partitions number bytes =
    (r : SpillRow) (rest : List ℕ) → IsOwn key_types types partitions number r
    → row_bytes types r ++ rest ≢ bytes

-- i such rows were tested, and these bytes are left
pub record AreTestedTo (key_types types : List DataType) (partitions number : ℕ)
    (rest all : List ℕ) (i : ℕ) : Type 0 where
  pub rows : List SpillRow
  pub own : All (IsOwn key_types types partitions number) rows
  pub bytes : rows_bytes types rows ++ rest ≡ all
  pub counted : length rows ≡ i
