use Rattle.pipe_states.proofs.laws.rows_of_chunks.Goals as goal
use Rattle.pipe_states.proofs.PartFacts.{part-in_range, parts-distinct, rows_by_keys}

pub returns-clause-in_range : goal.returns-clause-in_range
returns-clause-in_range c = part-in_range

pub returns-clause-distinct : goal.returns-clause-distinct
returns-clause-distinct c = parts-distinct

pub returns-clause-keys : goal.returns-clause-keys
returns-clause-keys c = rows_by_keys
