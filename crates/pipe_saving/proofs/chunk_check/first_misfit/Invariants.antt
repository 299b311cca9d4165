use Rattle.std.proofs.Common.{take}
use Rattle.pipe_saving.specs.Refusals.{AllFit}
use Rattle.pipe_saving.proofs.chunk_check.first_misfit.Given as goal

-- the chunks before fit
abbrev pub invariant-loop-position : goal.invariant-loop-position
invariant-loop-position l = AllFit l.schema (take l.position l.chunks)
