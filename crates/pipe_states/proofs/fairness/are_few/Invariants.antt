use Rattle.std.proofs.Common.{◌≡◌, ◌<◌, ◌^◌, take}
use Rattle.std.specs.Prelude.{sum_by}
use Rattle.pipe_states.proofs.fairness.are_few.Given as goal

-- the rows so far are few
abbrev pub invariant-loop-row : goal.invariant-loop-row
invariant-loop-row l = (l.sum ≡ sum_by (λ r. r.rows) (take l.row-index l.rows)) × (l.sum < 2 ^ 32)
