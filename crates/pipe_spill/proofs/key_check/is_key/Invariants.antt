-- So many values were passed over.
use Rattle.pipe_spill.proofs.ValuesRead.{IsKeyTo}
use Rattle.pipe_spill.proofs.key_check.is_key.Given as goal

abbrev pub invariant-loop-dtype : goal.invariant-loop-dtype
invariant-loop-dtype l = IsKeyTo l.types l.key l.rest l.dtype-index
