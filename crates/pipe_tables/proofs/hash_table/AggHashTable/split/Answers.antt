use Rattle.std.proofs.Common.{sym, subst}
use Rattle.pipe_groups.specs.Shape.{IsShape, Shape}
use Rattle.pipe_keyed.proofs.TableFacts.{table-none}
use Rattle.pipe_tables.proofs.hash_table.AggHashTable.split.Goals as goal

pub invariant_of-result : goal.invariant_of-result
invariant_of-result c = record {
  table = table-none _ (subst (λ (s : Shape). IsShape s) (sym c.in_ok-split.ensures.shape) c.self.invariant.table.shape) c.in_ok-split.ensures.groups;
  parts = tt;
}
