use Rattle.pipe_sinks.proofs.MarkedFacts.{ReadTo}
use Rattle.pipe_sinks.proofs.sole_mark.is_escaped_code.Given as goal

-- the front of the code was read
abbrev pub invariant-loop-byte : goal.invariant-loop-byte
invariant-loop-byte l = ReadTo l.code l.text l.at l.byte-index
