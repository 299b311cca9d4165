use Rattle.std.proofs.Common.{rules, ◌≡◌, ◌+◌, ◌∷◌, ◌∙◌, List, arith, ap, length, map}
use Rattle.std.specs.List.{sum_by}
use Rattle.std.proofs.lemmas.List.Sums.{sum_by-cons}
use Rattle.std.specs.Vec.Iter.{into_iter_items}
use Rattle.pipe_plan.specs.Run.{StoreSeen}
use Rattle.pipe_global.specs.Partition.{PartitionSeen}
use Rattle.pipe_asked.proofs.Lists.{built-all, built-more}
use Rattle.pipe_run.proofs.parts.parts_of.Goals as goal

pub overflow_add-arrived : goal.overflow_add-arrived
overflow_add-arrived g c =
    let old : List PartitionSeen = into_iter_items c.loop-partition.partition-iterator in
    let new : List PartitionSeen = into_iter_items c.next.new.self in
    let items : old ≡ c.in-Some.partition ∷ new = search rules in
    let more : sum_by (λ (s : PartitionSeen). s.arrived) old ≡ c.in-Some.partition.arrived + sum_by (λ (s : PartitionSeen). s.arrived) new =
    ap (λ (l : List PartitionSeen). sum_by (λ s. s.arrived) l) items ∙ sum_by-cons (λ (s : PartitionSeen). s.arrived) c.in-Some.partition new in
    let count : c.arrived-arrived.result ≡ c.in-Some.partition.arrived = search rules in
    omega (arith, more, count, c.loop-partition.invariant.8, c.loop-partition.invariant.9)

pub loop-partition-preserved : goal.loop-partition-preserved
loop-partition-preserved g c =
    let S = g.row.S.Denot in
    let seen : S → StoreSeen = λ s. record { held = g.S.SpillStore.held s; told = g.S.SpillStore.told s; faults = g.S.SpillStore.faults s; sure = g.S.SpillStore.sure s; path = g.S.SpillStore.path s } in
    let old : List PartitionSeen = into_iter_items c.loop-partition.partition-iterator in
    let new : List PartitionSeen = into_iter_items c.next.new.self in
    let items : old ≡ c.in-Some.partition ∷ new = search rules in
    let size = ap (λ (l : List PartitionSeen). length l) items in
    let more : sum_by (λ (s : PartitionSeen). s.arrived) old ≡ c.in-Some.partition.arrived + sum_by (λ (s : PartitionSeen). s.arrived) new =
    ap (λ (l : List PartitionSeen). sum_by (λ s. s.arrived) l) items ∙ sum_by-cons (λ (s : PartitionSeen). s.arrived) c.in-Some.partition new in
    let count : c.arrived-arrived.result ≡ c.in-Some.partition.arrived = search rules in
    let journal : c.into_parts-journal.result.0 ≡ c.in-Some.partition.journal = search rules in
    let store : seen c.into_parts-journal.result.1 ≡ c.in-Some.partition.store = search rules in (
      tt,
      tt,
      omega (arith, size, c.push_reserved.ensures.len, c.loop-partition.invariant.2),
      omega (arith, c.push_reserved.ensures.capacity, c.loop-partition.invariant.3),
      omega (arith, size, c.push_reserved-in-loop-partition.ensures.len, c.loop-partition.invariant.4),
      omega (arith, c.push_reserved-in-loop-partition.ensures.capacity, c.loop-partition.invariant.5),
      built-more (λ (s : PartitionSeen). s.journal) c.loop-partition.journals.items c.push_reserved.new.self.items c.into_parts-journal.result.0 c.in-Some.partition old new (map (λ (s : PartitionSeen). s.journal) c.args.closed.items) items c.push_reserved.ensures.items journal c.loop-partition.invariant.6,
      built-all seen (λ (s : PartitionSeen). s.store) c.loop-partition.stores.items c.push_reserved-in-loop-partition.new.self.items c.into_parts-journal.result.1 c.in-Some.partition old new (map (λ (s : PartitionSeen). s.store) c.args.closed.items) items c.push_reserved-in-loop-partition.ensures.items store c.loop-partition.invariant.7,
      omega (arith, more, count, c.loop-partition.invariant.8),
      c.loop-partition.invariant.9,
    )
