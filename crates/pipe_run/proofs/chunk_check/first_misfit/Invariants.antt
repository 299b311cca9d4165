use Rattle.std.proofs.Common.{take}
use Rattle.std.specs.List.{All}
use Rattle.pipe_columns.specs.Frame.{HoldsTypes}
use Rattle.pipe_run.specs.Refusals.{AllHaveFields}
use Rattle.pipe_run.proofs.chunk_check.first_misfit.Given as goal

-- the chunks before fit
abbrev pub invariant-loop-position : goal.invariant-loop-position
invariant-loop-position l = AllHaveFields l.schema (take l.position l.chunks) × All (λ c. HoldsTypes c.frame) (take l.position l.chunks)
