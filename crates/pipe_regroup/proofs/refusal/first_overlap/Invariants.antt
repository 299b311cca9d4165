use Rattle.std.proofs.Common.{take}
use Rattle.pipe_states.specs.Together.{NoneOverlap}
use Rattle.pipe_regroup.proofs.refusal.first_overlap.Given as goal

-- none so far shares one with an earlier one
abbrev pub invariant-loop-i : goal.invariant-loop-i
invariant-loop-i l = record { apart : NoneOverlap (take l.i l.files) }
