-- The number of the bytes so far.
use Rattle.std.proofs.Common.{◌≡◌, ◌<◌, ◌^◌, take}
use Rattle.pipe_waiting.specs.ReadRows.{number_of}
use Rattle.pipe_waiting.proofs.plain_value.first.Given as goal

abbrev pub invariant-loop-i : goal.invariant-loop-i
invariant-loop-i l = record {
  number : l.number ≡ number_of (take l.i l.body);
  range : l.number < 256 ^ l.i;
}
