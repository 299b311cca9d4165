use Rattle.pipe_keyed.proofs.TableFacts.{table-none}
use Rattle.pipe_sinks.proofs.key_table.KeyTable.new.Goals as goal

pub invariant_of-result : goal.invariant_of-result
invariant_of-result c = table-none _ c.in_ok-keyed.ensures.known c.in_ok-keyed.ensures.groups
