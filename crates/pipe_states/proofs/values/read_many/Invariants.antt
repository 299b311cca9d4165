-- So many values were read.
use Rattle.pipe_spill.proofs.ValuesRead.{IsReadTo}
use Rattle.pipe_states.proofs.values.read_many.Given as goal

abbrev pub invariant-loop-dtype : goal.invariant-loop-dtype
invariant-loop-dtype l = IsReadTo l.types l.bytes l.values.items l.rest l.dtype-index
