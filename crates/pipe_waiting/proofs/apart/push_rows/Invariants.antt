-- So many rows stand behind those that waited.
use Rattle.std.proofs.Common.{◌≡◌, ◌++◌, ℕ, List, take}
use Rattle.pipe_columns.specs.declared.data_type.DataType.{DataType}
use Rattle.pipe_spill.specs.declared.spill_row.SpillRow.{SpillRow}
use Rattle.pipe_waiting.specs.Waiting.{AreWaiting, Waiting, waiting_rows}
use Rattle.pipe_waiting.proofs.apart.push_rows.Given as goal

pub record ArePutTo (types : List DataType) (rows : List SpillRow) (before after : Waiting) (i : ℕ) : Type 0 where
  pub typed : AreWaiting types after
  pub read : waiting_rows types after ≡ waiting_rows types before ++ take i rows

abbrev pub invariant-loop-row : goal.invariant-loop-row
invariant-loop-row l = ArePutTo l.types l.rows l.fn.waiting l.waiting l.row-index
