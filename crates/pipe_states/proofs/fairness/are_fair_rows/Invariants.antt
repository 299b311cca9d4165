use Rattle.std.proofs.Common.{take}
use Rattle.std.specs.Prelude.{All}
use Rattle.pipe_states.specs.Fair.{IsFairRow}
use Rattle.pipe_states.proofs.fairness.are_fair_rows.Given as goal

-- the rows so far are fair
abbrev pub invariant-loop-row : goal.invariant-loop-row
invariant-loop-row l = All (IsFairRow l.fn.first l.fn.end) (take l.row-index l.rows)
