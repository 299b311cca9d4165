-- What is written, and the code of the values that are left, make the code of the tuple.
use Rattle.std.proofs.Common.{◌≡◌, ◌++◌, List, ℕ, drop, take}
use Rattle.std.specs.Prelude.{All}
use Rattle.pipe_columns.specs.declared.data_type.DataType.{DataType}
use Rattle.pipe_columns.specs.declared.any_value.AnyValue.{AnyValue}
use Rattle.pipe_columns.specs.Key.{code}
use Rattle.pipe_columns.specs.AnyValue.{HasUtf8}
use Rattle.pipe_spill.proofs.encode.append_values.Given as goal

pub record AreWritten (types : List DataType) (values : List AnyValue) (old new : List ℕ) (i : ℕ) : Type 0 where
  pub utf8 : All HasUtf8 (take i values)
  pub bytes : new ++ code (drop i types) (drop i values) ≡ old ++ code types values

abbrev pub invariant-loop-i : goal.invariant-loop-i
invariant-loop-i l = AreWritten l.types l.values l.fn.buffer.items l.buffer.items l.i
