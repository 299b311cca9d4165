use Rattle.std.proofs.Common.{◌≡◌, take, true}
use Rattle.pipe_writers.specs.PlainBytes.{are_plain}
use Rattle.pipe_writers.proofs.json_plain.few_are_plain.Given as goal

-- the bytes so far have no escape
abbrev pub invariant-loop-byte : goal.invariant-loop-byte
invariant-loop-byte l = are_plain (take l.byte-index l.bytes) ≡ true
