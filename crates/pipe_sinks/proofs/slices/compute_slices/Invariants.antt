use Rattle.pipe_sinks.proofs.SlicePartFacts.{Parting}
use Rattle.pipe_sinks.proofs.slices.compute_slices.Given as goal

abbrev pub invariant-loop-len : goal.invariant-loop-len
invariant-loop-len l = Parting l.lens l.fn.slice l.parts.items l.left l.len-index
