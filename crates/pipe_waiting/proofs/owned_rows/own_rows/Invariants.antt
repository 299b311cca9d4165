-- So many rows were taken of those that were there, and the others are left.
use Rattle.std.proofs.Common.{◌≡◌, ◌+◌, ◌++◌, ℕ, List}
use Rattle.pipe_columns.specs.declared.data_type.DataType.{DataType}
use Rattle.pipe_spill.specs.declared.spill_row.SpillRow.{SpillRow}
use Rattle.pipe_waiting.specs.Waiting.{HoldRows, Left, left_rows}
use Rattle.pipe_waiting.proofs.owned_rows.own_rows.Given as goal

pub record AreTakenTo (types : List DataType) (all left : Left) (taken : List SpillRow) (i : ℕ) : Type 0 where
  pub hold : HoldRows types left.count left.bytes
  pub count : left.count + i ≡ all.count
  pub whole : taken ++ left_rows types left ≡ left_rows types all

abbrev pub invariant-loop-row : goal.invariant-loop-row
invariant-loop-row l = AreTakenTo l.types l.fn.rows l.rest l.owned.items l._row
