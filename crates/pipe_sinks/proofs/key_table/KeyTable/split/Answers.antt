use Rattle.std.proofs.Common.{sym, subst}
use Rattle.pipe_groups.specs.Shape.{IsShape, Shape}
use Rattle.pipe_keyed.proofs.TableFacts.{table-none}
use Rattle.pipe_sinks.proofs.key_table.KeyTable.split.Goals as goal

pub invariant_of-result : goal.invariant_of-result
invariant_of-result c = table-none _ (subst (λ (s : Shape). IsShape s) (sym c.in_ok-keyed.ensures.shape) c.self.invariant.shape) c.in_ok-keyed.ensures.groups
