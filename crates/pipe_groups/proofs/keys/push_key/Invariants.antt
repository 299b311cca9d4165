use Rattle.pipe_groups.specs.Columns.{columns_of_unfinished}
use Rattle.pipe_groups.specs.Reading.{IsReading}
use Rattle.pipe_groups.proofs.keys.push_key.Given as goal

-- the values so far stand in the columns
abbrev pub invariant-loop-at : goal.invariant-loop-at
invariant-loop-at l = IsReading (columns_of_unfinished l.initial.columns) l.key l.at (columns_of_unfinished l.columns) l.rest
