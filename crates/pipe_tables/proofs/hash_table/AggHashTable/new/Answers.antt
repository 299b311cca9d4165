use Rattle.pipe_keyed.proofs.TableFacts.{table-none}
use Rattle.pipe_tables.proofs.hash_table.AggHashTable.new.Goals as goal

pub invariant_of-result : goal.invariant_of-result
invariant_of-result c = record { table = table-none _ c.in_ok-new.ensures.known c.in_ok-new.ensures.groups; parts = tt }
