use Rattle.std.proofs.Common.{rules, ◌≡◌, ◌∙◌, ◌+◌, ◌<◌, [], ◌∷◌, List, length, slice_index_or, vec_len, refl, arith, ap, sym, subst}
use Rattle.std.specs.Vec.Iter.{into_iter_items}
use Rattle.std.proofs.lemmas.List.Sums.{sum_by-cons}
use Rattle.pipe_global.specs.Closed.{all_events}
use Rattle.pipe_global.specs.Partition.{PartitionSeen}
use Rattle.pipe_global.specs.Resuming.{IsTakenOver}
use Rattle.pipe_global.proofs.ResumeFacts.{rest-each, taken-own}
use Rattle.pipe_global.proofs.resume.locks_of.Goals as goal

pub loop-partition-init : goal.loop-partition-init
loop-partition-init g c =
    let r = g.R.Naming.run in
    let all : List PartitionSeen = into_iter_items c.into_iter-partition-iterator.result in
    let items : all ≡ c.args.partitions.items = search rules in
    let none : vec_len c.args.locks ≡ 0 = c.requires.room.0 in
    let count : length c.args.partitions.items ≡ vec_len c.args.partitions = search rules in
    let size : length all ≡ vec_len c.args.partitions = ap (λ (l : List PartitionSeen). length l) items ∙ count in (
      tt,
      tt,
      c.requires.events.0 ∙ sym size,
      c.requires.events.1,
      c.requires.refusals.0 ∙ sym size,
      c.requires.refusals.1,
      omega (arith, none, size),
      c.requires.room.1,
      ap (λ (l : List PartitionSeen). c.args.book.now.total + all_events l) items,
      λ k d lt.
          subst (λ n. IsTakenOver r n (slice_index_or all k d)) {x = k} {y = vec_len c.args.locks + k} (omega (arith, none))
          (subst (λ (l : List PartitionSeen). IsTakenOver r k (slice_index_or l k d)) (sym items) (c.requires.taken k d (omega (arith, lt, size, count)))),
    )

pub lock_of-requires-clause-taken : goal.lock_of-requires-clause-taken
lock_of-requires-clause-taken g c =
    let r = g.R.Naming.run in
    let one : PartitionSeen = c.in-Some.partition in
    let old : List PartitionSeen = into_iter_items c.loop-partition.partition-iterator in
    let items : old ≡ one ∷ into_iter_items c.next.new.self = search rules in
    let some : 0 < length old = omega (arith, ap (λ (l : List PartitionSeen). length l) items) in
    let head : slice_index_or old 0 one ≡ one = ap (λ (l : List PartitionSeen). slice_index_or l 0 one) items in
    let at : IsTakenOver r (vec_len c.loop-partition.locks + 0) (slice_index_or old 0 one) = c.loop-partition.invariant.9 0 one some in
    taken-own r (vec_len c.loop-partition.locks + 0) one (subst (IsTakenOver r (vec_len c.loop-partition.locks + 0)) head at)

pub loop-partition-preserved : goal.loop-partition-preserved
loop-partition-preserved g c =
    let r = g.R.Naming.run in
    let n = vec_len c.loop-partition.locks in
    let one : PartitionSeen = c.in-Some.partition in
    let old : List PartitionSeen = into_iter_items c.loop-partition.partition-iterator in
    let new : List PartitionSeen = into_iter_items c.next.new.self in
    let items : old ≡ one ∷ new = search rules in
    let len : vec_len c.push_reserved.new.self ≡ n + 1 = c.push_reserved.ensures.len in
    let size : length old ≡ 1 + length new = omega (arith, ap (λ (l : List PartitionSeen). length l) items) in
    let events : all_events old ≡ length one.journal + all_events new = ap all_events items ∙ sum_by-cons (λ (s : PartitionSeen). length s.journal) one new in (
      tt,
      tt,
      omega (arith, c.split_off-event_part.ensures.parts_left, c.loop-partition.invariant.2, size),
      omega (arith, c.split_off-event_part.ensures.amount_left, c.loop-partition.invariant.3),
      omega (arith, c.split_off-fault_part.ensures.parts_left, c.loop-partition.invariant.4, size),
      omega (arith, c.split_off-fault_part.ensures.amount_left, c.loop-partition.invariant.5),
      omega (arith, c.loop-partition.invariant.6, size, len),
      omega (arith, c.loop-partition.invariant.7, c.push_reserved.ensures.capacity),
      omega (arith, c.loop-partition.invariant.8, events, c.lock_of.ensures),
      λ k d lt.
          subst (λ m. IsTakenOver r m (slice_index_or new k d)) {x = n + (k + 1)} {y = vec_len c.push_reserved.new.self + k} (omega (arith, len))
          (rest-each (λ j s. IsTakenOver r (n + j) s) old one new items c.loop-partition.invariant.9 k d lt),
    )

-- a partition is left, so a part of each ledger is
pub split_off-event_part-requires-clause-has_parts : goal.split_off-event_part-requires-clause-has_parts
split_off-event_part-requires-clause-has_parts g c =
    let items : into_iter_items c.loop-partition.partition-iterator ≡ c.in-Some.partition ∷ into_iter_items c.next.new.self = search rules in
    omega (arith, ap (λ (l : List PartitionSeen). length l) items, c.loop-partition.invariant.2)

pub split_off-fault_part-requires-clause-has_parts : goal.split_off-fault_part-requires-clause-has_parts
split_off-fault_part-requires-clause-has_parts g c =
    let items : into_iter_items c.loop-partition.partition-iterator ≡ c.in-Some.partition ∷ into_iter_items c.next.new.self = search rules in
    omega (arith, ap (λ (l : List PartitionSeen). length l) items, c.loop-partition.invariant.4)

pub loop-partition-smaller : goal.loop-partition-smaller
loop-partition-smaller g c =
    let items : into_iter_items c.loop-partition.partition-iterator ≡ c.in-Some.partition ∷ into_iter_items c.next.new.self = search rules in
    omega (arith, ap (λ (l : List PartitionSeen). length l) items)

pub returns-clause-len : goal.returns-clause-len
returns-clause-len g c =
    let it = c.loop-partition.partition-iterator in
    let none : length (into_iter_items it) ≡ 0 = sym it.rest.ok.0 ∙ c.in-None.ensures.steps.0 in
    omega (arith, none, c.loop-partition.invariant.6)

none-left : (xs : List PartitionSeen) → length xs ≡ 0 → all_events xs ≡ 0
none-left [] e = refl
none-left (x ∷ xs) e = absurd (omega (arith, e))

pub returns-clause-total : goal.returns-clause-total
returns-clause-total g c =
    let it = c.loop-partition.partition-iterator in
    let none : length (into_iter_items it) ≡ 0 = sym it.rest.ok.0 ∙ c.in-None.ensures.steps.0 in
    omega (arith, none-left (into_iter_items it) none, c.loop-partition.invariant.8)
