-- So many values were read, and the others begin what is left.
use Rattle.std.proofs.Common.{drop}
use Rattle.pipe_waiting.specs.PlainValues.{BeginsSome}
use Rattle.pipe_waiting.proofs.PlainRead.{ArePlacedTo}
use Rattle.pipe_waiting.proofs.plain_rows.read_plain_inputs.Given as goal

abbrev pub invariant-loop-i : goal.invariant-loop-i
invariant-loop-i l = record {
  placed : ArePlacedTo l.types l.bytes l.values l.rest l.i;
  begins : BeginsSome (drop l.i l.types) l.rest;
}
