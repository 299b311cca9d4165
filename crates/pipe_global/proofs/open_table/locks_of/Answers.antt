use Rattle.std.proofs.Common.{rules, ◌≡◌, ◌∙◌, ◌+◌, ◌∷◌, ◌++◌, List, arith, sym, subst, ap, length, map, vec_len}
use Rattle.std.specs.Prelude.{IfSome, Option, Some}
use Rattle.std.specs.Option.{option_to_list}
use Rattle.std.specs.List.{All}
use Rattle.std.specs.Vec.Iter.{into_iter_items}
use Rattle.std.proofs.lemmas.List.Elements.{All-pop}
use Rattle.pipe_plan.specs.Run.{Run, StoreSeen}
use Rattle.pipe_global.specs.declared.place.Place.{Place}
use Rattle.pipe_global.specs.Opening.{AreStoresFrom, IsEmptyPlace}
use Rattle.pipe_global.specs.Partition.{store_of}
use Rattle.pipe_global.proofs.Closing.{store-next}
use Rattle.pipe_global.proofs.open_table.locks_of.Goals as goal

pub loop-store-preserved : goal.loop-store-preserved
loop-store-preserved g c =
    let r = g.R.Naming.run in
    let S = g.row.S.Denot in
    let seen : S → StoreSeen = λ s. record { held = g.S.SpillStore.held s; told = g.S.SpillStore.told s; faults = g.S.SpillStore.faults s; sure = g.S.SpillStore.sure s; path = g.S.SpillStore.path s } in
    let P : Place → Type 0 = IsEmptyPlace r.query r.limits.workers in
    let old : List S = into_iter_items c.loop-store.store-iterator in
    let new : List S = into_iter_items c.next.new.self in
    let items : old ≡ c.in-Some.store ∷ new = search rules in
    let size : length old ≡ 1 + length new = omega (arith, ap (λ (l : List S). length l) items) in
    let len : vec_len c.push_reserved.new.self ≡ vec_len c.loop-store.locks + 1 = c.push_reserved.ensures.len in
    let rest : AreStoresFrom r (vec_len c.loop-store.locks + 1) (map seen new) =
    (store-next r (vec_len c.loop-store.locks) (seen c.in-Some.store) (map seen new) (map seen old) (ap (λ (l : List S). map seen l) items) c.loop-store.invariant.10).1 in (
      tt,
      tt,
      omega (arith, c.split_off-event_part.ensures.parts_left, c.loop-store.invariant.2, size),
      omega (arith, c.split_off-event_part.ensures.amount_left, c.loop-store.invariant.3),
      omega (arith, c.split_off-fault_part.ensures.parts_left, c.loop-store.invariant.4, size),
      omega (arith, c.split_off-fault_part.ensures.amount_left, c.loop-store.invariant.5),
      omega (arith, c.loop-store.invariant.6, size, len),
      omega (arith, c.loop-store.invariant.7, c.push_reserved.ensures.capacity),
      omega (arith, c.loop-store.invariant.8, size, c.in-Some-pop.ensures.cases),
      (All-pop P c.loop-store.places.items c.pop.new.self.items c.pop.result c.pop.ensures.items c.loop-store.invariant.9).0,
      subst (λ n. AreStoresFrom r n (map seen new)) (sym len) rest,
    )

pub loop-store-init : goal.loop-store-init
loop-store-init g c =
    let r = g.R.Naming.run in
    let S = g.row.S.Denot in
    let seen : S → StoreSeen = λ s. record { held = g.S.SpillStore.held s; told = g.S.SpillStore.told s; faults = g.S.SpillStore.faults s; sure = g.S.SpillStore.sure s; path = g.S.SpillStore.path s } in
    let all : List S = into_iter_items c.into_iter-store-iterator.result in
    let items : all ≡ c.args.stores.items = search rules in
    let none : vec_len c.args.locks ≡ 0 = c.requires.room.0 in
    let count : length c.args.stores.items ≡ vec_len c.args.stores = search rules in
    let size : length all ≡ vec_len c.args.stores = ap (λ (l : List S). length l) items ∙ count in
    let from : AreStoresFrom r 0 (map seen all) = subst (λ (l : List S). AreStoresFrom r 0 (map seen l)) (sym items) c.requires.stores in (
      tt,
      tt,
      c.requires.events.0 ∙ sym size,
      c.requires.events.1,
      c.requires.refusals.0 ∙ sym size,
      c.requires.refusals.1,
      omega (arith, none, size),
      c.requires.room.1,
      c.requires.places ∙ sym size,
      c.requires.each,
      subst (λ n. AreStoresFrom r n (map seen all)) (sym none) from,
    )

-- a place for each store that is left
pub unreachable-requires : goal.unreachable-requires
unreachable-requires g c =
    let items : into_iter_items c.loop-store.store-iterator ≡ c.in-Some.store ∷ into_iter_items c.next.new.self = search rules in
    omega (arith, ap (λ (l : List g.row.S.Denot). length l) items, c.loop-store.invariant.8, c.in_default.ensures.cases)

-- the last of places
last-place : (r : Run) (all left : List Place) (last : Option Place) (place : Place) → all ≡ left ++ option_to_list last → last ≡ Some place → All (IsEmptyPlace r.query r.limits.workers) all → IsEmptyPlace r.query r.limits.workers place
last-place r all left last place pops is each = subst (λ o. IfSome o (IsEmptyPlace r.query r.limits.workers)) is (All-pop (IsEmptyPlace r.query r.limits.workers) all left last pops each).1

pub new-requires-clause-shape : goal.new-requires-clause-shape
new-requires-clause-shape g c =
    let place = last-place g.R.Naming.run c.loop-store.places.items c.pop.new.self.items c.pop.result c.in-Some-pop.place c.pop.ensures.items c.in-Some-pop.is c.loop-store.invariant.9 in
    place.shape

pub new-requires-clause-table : goal.new-requires-clause-table
new-requires-clause-table g c =
    let place = last-place g.R.Naming.run c.loop-store.places.items c.pop.new.self.items c.pop.result c.in-Some-pop.place c.pop.ensures.items c.in-Some-pop.is c.loop-store.invariant.9 in
    (place.limit, place.groups)

pub new-requires-clause-book : goal.new-requires-clause-book
new-requires-clause-book g c =
    let place = last-place g.R.Naming.run c.loop-store.places.items c.pop.new.self.items c.pop.result c.in-Some-pop.place c.pop.ensures.items c.in-Some-pop.is c.loop-store.invariant.9 in
    place.book

pub new-requires-clause-store : goal.new-requires-clause-store
new-requires-clause-store g c =
    let r = g.R.Naming.run in
    let S = g.row.S.Denot in
    let seen : S → StoreSeen = λ s. record { held = g.S.SpillStore.held s; told = g.S.SpillStore.told s; faults = g.S.SpillStore.faults s; sure = g.S.SpillStore.sure s; path = g.S.SpillStore.path s } in
    let old : List S = into_iter_items c.loop-store.store-iterator in
    let new : List S = into_iter_items c.next.new.self in
    let items : old ≡ c.in-Some.store ∷ new = search rules in
    let number : vec_len c.loop-store.locks ≡ c.len-number.result = sym c.len-number.ensures in
    subst (λ n. seen c.in-Some.store ≡ store_of r n) number
    (store-next r (vec_len c.loop-store.locks) (seen c.in-Some.store) (map seen new) (map seen old) (ap (λ (l : List S). map seen l) items) c.loop-store.invariant.10).0

pub returns : goal.returns
returns g c =
    let it = c.loop-store.store-iterator in
    let none : length (into_iter_items it) ≡ 0 = sym it.rest.ok.0 ∙ c.in-None.ensures.steps.0 in
    omega (arith, none, c.loop-store.invariant.6)
