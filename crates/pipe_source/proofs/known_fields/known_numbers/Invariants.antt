use Rattle.std.proofs.Common.{take}
use Rattle.pipe_source.specs.Known.{AreKnown}
use Rattle.pipe_source.proofs.known_fields.known_numbers.Given as goal

-- the first fields are known
abbrev pub invariant-loop-field : goal.invariant-loop-field
invariant-loop-field l = AreKnown l.is_ascii l.numbers.items (take l.field-index l.fields)
