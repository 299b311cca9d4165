use Rattle.std.proofs.Common.{◌≡◌, ◌∙◌, ◌∷◌, ◌++◌, [], ap, arith, length, map, sym}
use Rattle.std.specs.Vec.Iter.{into_iter_items}
use Rattle.pipe_plan.specs.Run.{StoreSeen}
use Rattle.pipe_asked.proofs.Lists.{built-all, none-left}
use Rattle.pipe_run.proofs.stores.stores_of.Goals as goal

pub loop-partition-preserved : goal.loop-partition-preserved
loop-partition-preserved g c =
    let seen : g.row.S.Denot → StoreSeen = λ s. record { held = g.S.SpillStore.held s; told = g.S.SpillStore.told s; faults = g.S.SpillStore.faults s; sure = g.S.SpillStore.sure s; path = g.S.SpillStore.path s } in
    let old = into_iter_items c.loop-partition.partition-iterator in
    let new = into_iter_items c.next.new.self in
    let items : old ≡ c.in-Some.partition ∷ new = c.in-Some.ensures.steps.0 in
    let size = ap (λ l. length l) items in
    let parts = c.into_parts-journal.ensures in
    let same : seen c.into_parts-journal.result.1 ≡ c.in-Some.partition.store = λ i. record { held = parts.held i; told = parts.told i; faults = parts.faults i; sure = parts.sure i; path = parts.path i } in (
      tt,
      tt,
      omega (arith, size, c.push_reserved.ensures.len, c.loop-partition.invariant.2),
      omega (arith, c.push_reserved.ensures.capacity, c.loop-partition.invariant.3),
      built-all seen (λ c. c.store) c.loop-partition.room.items c.push_reserved.new.self.items c.into_parts-journal.result.1 c.in-Some.partition old new (map (λ c. c.store) c.args.closed.items) items c.push_reserved.ensures.items same c.loop-partition.invariant.4,
    )

pub loop-partition-init : goal.loop-partition-init
loop-partition-init g c =
    let seen : g.row.S.Denot → StoreSeen = λ s. record { held = g.S.SpillStore.held s; told = g.S.SpillStore.told s; faults = g.S.SpillStore.faults s; sure = g.S.SpillStore.sure s; path = g.S.SpillStore.path s } in
    let iter = into_iter_items c.into_iter-partition-iterator.result in
    let gives : iter ≡ c.args.closed.items = c.into_iter-partition-iterator.ensures.into_iter_gives.0 in
    let none : c.args.room.items ≡ [] = none-left c.args.room.items (sym c.args.room.ok.0 ∙ c.requires.0) in (
      tt,
      tt,
      omega (arith, c.requires, ap (λ l. length l) gives, c.args.closed.ok.0),
      c.requires.1,
      ap (λ l. map seen l ++ map (λ c. c.store) iter) none ∙ ap (λ l. map (λ c. c.store) l) gives,
    )

pub push_reserved-requires : goal.push_reserved-requires
push_reserved-requires g c = omega (arith, ap (λ l. length l) c.in-Some.ensures.steps.0, c.loop-partition.invariant.2, c.loop-partition.invariant.3)

pub loop-partition-smaller : goal.loop-partition-smaller
loop-partition-smaller g c = omega (arith, ap (λ l. length l) c.in-Some.ensures.steps.0, c.next.new.self.rest.ok.0, c.loop-partition.partition-iterator.rest.ok.0)
