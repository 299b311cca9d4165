use Rattle.std.proofs.Common.{◌≡◌, ◌∙◌, ◌∷◌, ◌++◌, [], Ok, ap, arith, length, map, subst, sym}
use Rattle.std.proofs.lemmas.List.{append-nil}
use Rattle.std.specs.Vec.Iter.{into_iter_items}
use Rattle.pipe_asked.proofs.Lists.{built-more, none-left}
use Rattle.pipe_asked.proofs.SideBySide.{HasTaken, taken-err, taken-ok}
use Rattle.pipe_asked.proofs.tasks.taken_apart.Goals as goal

pub loop-task-preserved : goal.loop-task-preserved
loop-task-preserved g c =
    let old = into_iter_items c.loop-task.task-iterator in
    let new = into_iter_items c.next.new.self in
    let items : old ≡ c.in-Some.task ∷ new = c.in-Some.ensures.steps.0 in
    let size = ap (λ l. length l) items in
    record {
      goes_on = tt;
      ends = tt;
      room = omega (arith, size, c.push_reserved.ensures.len, c.push_reserved.ensures.capacity, c.loop-task.invariant.room);
      kept_room = omega (arith, size, c.loop-task.invariant.kept_room);
      partitions = built-more (λ t. t.partition) c.loop-task.closed.items c.push_reserved.new.self.items c.into_parts-partition.result.0 c.in-Some.task old new (map (λ t. t.partition) c.args.tasks.items) items c.push_reserved.ensures.items c.into_parts-partition.ensures.partition c.loop-task.invariant.partitions;
      taken = subst (λ r. HasTaken r c.loop-task.kept.items (map (λ t. t.given) new) (map (λ t. t.given) c.args.tasks.items)) (sym c.or-refusal.ensures)
          (taken-err c.loop-task.refusal c.loop-task.kept.items c.in-Err.error c.in-Some.task.given (map (λ t. t.given) old) (map (λ t. t.given) new) (map (λ t. t.given) c.args.tasks.items)
          (ap (λ l. map (λ t. t.given) l) items) (sym c.into_parts-partition.ensures.given ∙ c.in-Err.is) c.loop-task.invariant.taken);
    }

pub loop-task-preserved-in-Ok : goal.loop-task-preserved-in-Ok
loop-task-preserved-in-Ok g c =
    let old = into_iter_items c.loop-task.task-iterator in
    let new = into_iter_items c.next.new.self in
    let items : old ≡ c.in-Some.task ∷ new = c.in-Some.ensures.steps.0 in
    let size = ap (λ l. length l) items in
    record {
      goes_on = tt;
      ends = tt;
      room = omega (arith, size, c.push_reserved.ensures.len, c.push_reserved.ensures.capacity, c.loop-task.invariant.room);
      kept_room = omega (arith, size, c.push_reserved-in-Ok.ensures.len, c.push_reserved-in-Ok.ensures.capacity, c.loop-task.invariant.kept_room);
      partitions = built-more (λ t. t.partition) c.loop-task.closed.items c.push_reserved.new.self.items c.into_parts-partition.result.0 c.in-Some.task old new (map (λ t. t.partition) c.args.tasks.items) items c.push_reserved.ensures.items c.into_parts-partition.ensures.partition c.loop-task.invariant.partitions;
      taken = taken-ok c.loop-task.refusal c.loop-task.kept.items c.push_reserved-in-Ok.new.self.items c.in-Ok.part c.in-Some.task.given (map (λ t. t.given) old) (map (λ t. t.given) new) (map (λ t. t.given) c.args.tasks.items)
          (ap (λ l. map (λ t. t.given) l) items) (sym c.into_parts-partition.ensures.given ∙ c.in-Ok.is) c.push_reserved-in-Ok.ensures.items c.loop-task.invariant.taken;
    }

pub returns-in-None-refusal-clause-partitions : goal.returns-in-None-refusal-clause-partitions
returns-in-None-refusal-clause-partitions g c =
    let none : into_iter_items c.loop-task.task-iterator ≡ [] = none-left (into_iter_items c.loop-task.task-iterator) (sym c.loop-task.task-iterator.rest.ok.0 ∙ c.in-None.ensures.steps.0) in
    sym (append-nil c.loop-task.closed.items) ∙ ap (λ l. c.loop-task.closed.items ++ map (λ t. t.partition) l) (sym none) ∙ c.loop-task.invariant.partitions

pub returns-in-None-refusal-clause-kept : goal.returns-in-None-refusal-clause-kept
returns-in-None-refusal-clause-kept g c =
    let none : into_iter_items c.loop-task.task-iterator ≡ [] = none-left (into_iter_items c.loop-task.task-iterator) (sym c.loop-task.task-iterator.rest.ok.0 ∙ c.in-None.ensures.steps.0) in
    let given = map (λ t. t.given) (into_iter_items c.loop-task.task-iterator) in
    let all = map (λ t. t.given) c.args.tasks.items in
    let so_far = subst (λ r. HasTaken r c.loop-task.kept.items given all) c.in-None-refusal.is c.loop-task.invariant.taken in
    sym (append-nil (map Ok c.loop-task.kept.items)) ∙ ap (λ l. map Ok c.loop-task.kept.items ++ map (λ t. t.given) l) (sym none) ∙ so_far

pub returns-in-Some-refusal-clause-partitions : goal.returns-in-Some-refusal-clause-partitions
returns-in-Some-refusal-clause-partitions g c =
    let none : into_iter_items c.loop-task.task-iterator ≡ [] = none-left (into_iter_items c.loop-task.task-iterator) (sym c.loop-task.task-iterator.rest.ok.0 ∙ c.in-None.ensures.steps.0) in
    sym (append-nil c.loop-task.closed.items) ∙ ap (λ l. c.loop-task.closed.items ++ map (λ t. t.partition) l) (sym none) ∙ c.loop-task.invariant.partitions

pub loop-task-init : goal.loop-task-init
loop-task-init g c =
    let iter = into_iter_items c.into_iter-task-iterator.result in
    let gives : iter ≡ c.args.tasks.items = c.into_iter-task-iterator.ensures.into_iter_gives.0 in
    let size = ap (λ l. length l) gives in
    let no_closed : c.args.closed.items ≡ [] = none-left c.args.closed.items (sym c.args.closed.ok.0 ∙ c.requires.closed.0) in
    let no_kept : c.args.kept.items ≡ [] = none-left c.args.kept.items (sym c.args.kept.ok.0 ∙ c.requires.kept.0) in
    record {
      goes_on = tt;
      ends = tt;
      room = omega (arith, size, c.requires.closed, c.args.tasks.ok.0);
      kept_room = omega (arith, size, c.requires.kept, c.args.tasks.ok.0);
      partitions = ap (λ l. l ++ map (λ t. t.partition) iter) no_closed ∙ ap (λ l. map (λ t. t.partition) l) gives;
      taken = ap (λ l. map Ok l ++ map (λ t. t.given) iter) no_kept ∙ ap (λ l. map (λ t. t.given) l) gives;
    }

pub push_reserved-requires : goal.push_reserved-requires
push_reserved-requires g c = omega (arith, ap (λ l. length l) c.in-Some.ensures.steps.0, c.loop-task.invariant.room)

pub push_reserved-requires-in-Ok : goal.push_reserved-requires-in-Ok
push_reserved-requires-in-Ok g c = omega (arith, ap (λ l. length l) c.in-Some.ensures.steps.0, c.loop-task.invariant.kept_room)

pub loop-task-smaller : goal.loop-task-smaller
loop-task-smaller g c = omega (arith, ap (λ l. length l) c.in-Some.ensures.steps.0, c.next.new.self.rest.ok.0, c.loop-task.task-iterator.rest.ok.0)

pub loop-task-smaller-in-Ok : goal.loop-task-smaller-in-Ok
loop-task-smaller-in-Ok g c = omega (arith, ap (λ l. length l) c.in-Some.ensures.steps.0, c.next.new.self.rest.ok.0, c.loop-task.task-iterator.rest.ok.0)
