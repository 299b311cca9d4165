use Rattle.std.proofs.Common.{sym, subst}
use Rattle.pipe_groups.specs.Shape.{IsShape, Shape}
use Rattle.pipe_groups.proofs.GiveFacts.{can-give}
use Rattle.pipe_keyed.proofs.TableFacts.{table-none}
use Rattle.pipe_tables.proofs.hash_table.AggHashTable.in_pieces.Goals as goal

pub in_pieces-requires-clause-gives : goal.in_pieces-requires-clause-gives
in_pieces-requires-clause-gives c = can-give _ _ c.self.invariant.table.shape c.self.invariant.table.apart c.self.invariant.table.rows

pub invariant_of-self-2 : goal.invariant_of-self-2
invariant_of-self-2 c = record {
  table = table-none _ (subst (λ (s : Shape). IsShape s) (sym c.in_ok-pieces.ensures.emptied.1) c.self.invariant.table.shape) c.in_ok-pieces.ensures.emptied.0;
  parts = tt;
}
