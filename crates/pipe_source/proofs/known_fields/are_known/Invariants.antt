use Rattle.std.proofs.Common.{take}
use Rattle.pipe_source.specs.Known.{AreKnownAt}
use Rattle.pipe_source.proofs.known_fields.are_known.Given as goal

-- the first columns are known
abbrev pub invariant-loop-i : goal.invariant-loop-i
invariant-loop-i l = AreKnownAt l.is_ascii l.numbers (take l.i l.columns) (take l.i l.places)
