use Rattle.std.proofs.Common.{◌-◌, ◌≡◌, ◌≤◌, drop, length}
use Rattle.pipe_writers.specs.PlainBytes.{are_plain}
use Rattle.pipe_writers.proofs.json_plain.many_are_plain.Given as goal

-- all is as what is left
abbrev pub invariant-loop-at : goal.invariant-loop-at
invariant-loop-at l = record {
  within : l.at ≤ length l.bytes;
  left : are_plain l.bytes ≡ are_plain (drop l.at l.bytes);
}

-- each turn leaves less
abbrev pub decreases-loop-at : goal.decreases-loop-at
decreases-loop-at l = length l.bytes - l.at
