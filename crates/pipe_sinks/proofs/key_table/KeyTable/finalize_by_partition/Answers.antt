use Rattle.std.proofs.Common.{sym, subst}
use Rattle.pipe_groups.specs.Shape.{IsShape, Shape}
use Rattle.pipe_groups.proofs.GiveFacts.{can-give}
use Rattle.pipe_groups.proofs.KeyFacts.{groups-few}
use Rattle.pipe_keyed.proofs.TableFacts.{table-none}
use Rattle.pipe_sinks.proofs.key_table.KeyTable.finalize_by_partition.Goals as goal

pub finalize_by_partition-requires-clause-gives : goal.finalize_by_partition-requires-clause-gives
finalize_by_partition-requires-clause-gives c = can-give _ _ c.self.invariant.shape c.self.invariant.apart c.self.invariant.rows

pub finalize_by_partition-requires-clause-held : goal.finalize_by_partition-requires-clause-held
finalize_by_partition-requires-clause-held c = groups-few _ _ c.self.invariant.apart c.self.invariant.rows

pub invariant_of-self-2 : goal.invariant_of-self-2
invariant_of-self-2 c = table-none _ (subst (λ (s : Shape). IsShape s) (sym c.in_ok-frame.ensures.emptied.1) c.self.invariant.shape) c.in_ok-frame.ensures.emptied.0
