use Rattle.std.proofs.Common.{◌≡◌, map, take}
use Rattle.pipe_states.proofs.fairness.are_lasts_apart.Given as goal

-- the places of the rows so far
abbrev pub invariant-loop-row : goal.invariant-loop-row
invariant-loop-row l = l.places.items ≡ map (λ r. r.last) (take l.row-index l.rows)
