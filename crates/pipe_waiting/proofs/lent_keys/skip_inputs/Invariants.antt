-- So many values were passed, and the others begin what is left.
use Rattle.std.proofs.Common.{drop}
use Rattle.pipe_spill.proofs.ValuesRead.{IsKeyTo}
use Rattle.pipe_waiting.specs.PlainValues.{BeginsSome}
use Rattle.pipe_waiting.proofs.lent_keys.skip_inputs.Given as goal

abbrev pub invariant-loop-i : goal.invariant-loop-i
invariant-loop-i l = record {
  passed : IsKeyTo l.types l.bytes l.rest l.i;
  begins : BeginsSome (drop l.i l.types) l.rest;
}
