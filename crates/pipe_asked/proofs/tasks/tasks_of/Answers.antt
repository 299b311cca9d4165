use Rattle.std.proofs.Common.{◌≡◌, ◌∙◌, ◌∷◌, ◌++◌, [], Err, ap, arith, length, map, refl, sym}
use Rattle.std.specs.Option.{option_to_list}
use Rattle.std.proofs.lemmas.List.{append-nil}
use Rattle.std.specs.Vec.Iter.{into_iter_items}
use Rattle.pipe_global.specs.declared.batch_error.BatchError.TheVariants as batch_error
use Rattle.pipe_asked.specs.declared.tasks.FinishTask.{FinishTask}
use Rattle.pipe_asked.proofs.Lists.{none-left}
use Rattle.pipe_asked.proofs.SideBySide.{moved-on}
use Rattle.pipe_asked.proofs.tasks.tasks_of.Goals as goal

pub loop-partition-preserved : goal.loop-partition-preserved
loop-partition-preserved g c =
    let old = into_iter_items c.loop-partition.partition-iterator in
    let new = into_iter_items c.next.new.self in
    let waiting = into_iter_items c.loop-partition.parts in
    let left = into_iter_items c.next-in-loop-partition.new.self in
    let items : old ≡ c.in-Some.partition ∷ new = c.in-Some.ensures.steps.0 in
    let local : waiting ≡ c.unwrap-local.result ∷ left = c.next-in-loop-partition.ensures.items ∙ ap (λ o. option_to_list o ++ left) c.unwrap-local.ensures in
    let size = ap (λ l. length l) items in
    let task : FinishTask g.row.S.Denot g.row.T.Denot = record { partition = c.in-Some.partition; local = c.unwrap-local.result; given = Err batch_error.Memory } in
    record {
      goes_on = tt;
      ends = tt;
      room = omega (arith, size, c.push_reserved.ensures.len, c.push_reserved.ensures.capacity, c.loop-partition.invariant.room);
      long = c.next-in-loop-partition.new.self.rest.ok.0;
      count = omega (arith, size, ap (λ l. length l) local, c.loop-partition.invariant.count);
      partitions = moved-on (λ (t : FinishTask g.row.S.Denot g.row.T.Denot). t.partition) c.loop-partition.tasks.items c.push_reserved.new.self.items task c.in-Some.partition old new c.args.closed.items items c.push_reserved.ensures.items refl c.loop-partition.invariant.partitions;
      locals = moved-on (λ (t : FinishTask g.row.S.Denot g.row.T.Denot). t.local) c.loop-partition.tasks.items c.push_reserved.new.self.items task c.unwrap-local.result waiting left c.args.locals.items local c.push_reserved.ensures.items refl c.loop-partition.invariant.locals;
    }

pub returns-clause-partitions : goal.returns-clause-partitions
returns-clause-partitions g c =
    let none : into_iter_items c.loop-partition.partition-iterator ≡ [] = none-left (into_iter_items c.loop-partition.partition-iterator) (sym c.loop-partition.partition-iterator.rest.ok.0 ∙ c.in-None.ensures.steps.0) in
    let all = map (λ t. t.partition) c.loop-partition.tasks.items in
    sym (append-nil all) ∙ ap (λ l. all ++ l) (sym none) ∙ c.loop-partition.invariant.partitions

pub returns-clause-locals : goal.returns-clause-locals
returns-clause-locals g c =
    let none : into_iter_items c.loop-partition.partition-iterator ≡ [] = none-left (into_iter_items c.loop-partition.partition-iterator) (sym c.loop-partition.partition-iterator.rest.ok.0 ∙ c.in-None.ensures.steps.0) in
    let empty : into_iter_items c.loop-partition.parts ≡ [] = none-left (into_iter_items c.loop-partition.parts) (c.loop-partition.invariant.count ∙ ap (λ l. length l) none) in
    let all = map (λ t. t.local) c.loop-partition.tasks.items in
    sym (append-nil all) ∙ ap (λ l. all ++ l) (sym empty) ∙ c.loop-partition.invariant.locals

pub loop-partition-init : goal.loop-partition-init
loop-partition-init g c =
    let iter = into_iter_items c.into_iter-partition-iterator.result in
    let parts = into_iter_items c.into_iter-parts.result in
    let gives : iter ≡ c.args.closed.items = c.into_iter-partition-iterator.ensures.into_iter_gives.0 in
    let rest : parts ≡ c.args.locals.items = c.into_iter-parts.ensures.rest in
    let none : c.args.tasks.items ≡ [] = none-left c.args.tasks.items (sym c.args.tasks.ok.0 ∙ c.requires.room.0) in
    record {
      goes_on = tt;
      ends = tt;
      room = omega (arith, c.requires.room, ap (λ l. length l) gives, c.args.closed.ok.0);
      long = c.into_iter-parts.result.rest.ok.0;
      count = omega (arith, c.requires.count, ap (λ l. length l) gives, ap (λ l. length l) rest, c.args.closed.ok.0, c.args.locals.ok.0);
      partitions = ap (λ l. map (λ (t : FinishTask g.row.S.Denot g.row.T.Denot). t.partition) l ++ iter) none ∙ gives;
      locals = ap (λ l. map (λ (t : FinishTask g.row.S.Denot g.row.T.Denot). t.local) l ++ parts) none ∙ rest;
    }

pub push_reserved-requires : goal.push_reserved-requires
push_reserved-requires g c = omega (arith, ap (λ l. length l) c.in-Some.ensures.steps.0, c.loop-partition.invariant.room)

pub loop-partition-smaller : goal.loop-partition-smaller
loop-partition-smaller g c = omega (arith, ap (λ l. length l) c.in-Some.ensures.steps.0, c.next.new.self.rest.ok.0, c.loop-partition.partition-iterator.rest.ok.0)
