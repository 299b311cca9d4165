use Rattle.pipe_tables.proofs.FoundFacts.{Finds}
use Rattle.pipe_tables.proofs.find_waiting.find_rows.Given as goal

abbrev pub decreases-loop-row : goal.decreases-loop-row
decreases-loop-row l = l.rows.count

-- the groups of those that are not left were found
abbrev pub invariant-loop-row : goal.invariant-loop-row
invariant-loop-row l = Finds l.fn.keyed.shape.input_types l.fn.rows l.fn.keyed l.keyed l.fn.spots.items l.spots.items l.rows
