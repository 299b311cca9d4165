use Rattle.std.proofs.Common.{rules, ◌≡◌, List, ap, arith, drop, map, refl, vec_len, ◌∙◌}
use Rattle.std.specs.Vec.Iter.{into_iter_items}
use Rattle.pipe_columns.specs.declared.data_chunk.DataChunk.{DataChunk}
use Rattle.pipe_sinks.specs.Runs.{Run}
use Rattle.pipe_group_by.proofs.Combining.{combined_to, first-combined, may-combine, next-combined, next-left, next-query}
use Rattle.pipe_group_by.proofs.combined.combined.Goals as goal

pub resume-all-requires : goal.resume-all-requires
resume-all-requires c =
    let left : List Run = into_iter_items c.into_iter-waiting.result in
    let at : left ≡ drop 0 c.args.sinks.items = search rules in
    next-query c.args.query.now c.args.partitions _ (map (λ m. m.value) c.args.chunks.now) c.args.sinks.items c.requires.taken 0 left (into_iter_items c.next.new.self) c.in-Some.first at c.in-Some.ensures.items

pub loop-worker-init : goal.loop-worker-init
loop-worker-init c =
    let chunks : List DataChunk = map (λ m. m.value) c.args.chunks.now in
    let left : List Run = into_iter_items c.into_iter-waiting.result in
    let at : left ≡ drop 0 c.args.sinks.items = search rules in (
      next-left c.args.query.now c.args.partitions _ chunks c.args.sinks.items c.requires.taken 0 left (into_iter_items c.next.new.self) c.in-Some.first at c.in-Some.ensures.items,
      first-combined c.args.query.now c.args.partitions _ chunks c.args.sinks.items c.requires.taken 0 left (into_iter_items c.next.new.self) c.in-Some.first at c.in-Some.ensures.items c.resume-all.result c.resume-all.ensures refl,
    )

pub resume-next-requires : goal.resume-next-requires
resume-next-requires c =
    next-query c.args.query.now c.args.partitions _ (map (λ m. m.value) c.args.chunks.now) c.args.sinks.items c.requires.taken c.loop-worker._worker (into_iter_items c.loop-worker.waiting) (into_iter_items c.next-in-loop-worker.new.self) c.in-Some-next.next
    c.loop-worker.invariant.0 c.in-Some-next.ensures.items

pub combine-requires : goal.combine-requires
combine-requires c =
    may-combine c.args.query.now c.args.partitions _ (map (λ m. m.value) c.args.chunks.now) c.args.sinks.items c.requires.taken c.loop-worker._worker (into_iter_items c.loop-worker.waiting) (into_iter_items c.next-in-loop-worker.new.self) c.in-Some-next.next
    c.loop-worker.invariant.0 c.in-Some-next.ensures.items c.loop-worker.all c.loop-worker.invariant.1 c.resume-next.result c.resume-next.ensures c.requires.asked

pub loop-worker-preserved : goal.loop-worker-preserved
loop-worker-preserved c =
    let chunks : List DataChunk = map (λ m. m.value) c.args.chunks.now in
    let left : List Run = into_iter_items c.loop-worker.waiting in
    let rest : List Run = into_iter_items c.next-in-loop-worker.new.self in (
      next-left c.args.query.now c.args.partitions _ chunks c.args.sinks.items c.requires.taken c.loop-worker._worker left rest c.in-Some-next.next c.loop-worker.invariant.0 c.in-Some-next.ensures.items,
      next-combined c.args.query.now c.args.partitions _ chunks c.args.sinks.items c.requires.taken c.loop-worker._worker left rest c.in-Some-next.next c.loop-worker.invariant.0 c.in-Some-next.ensures.items
          c.loop-worker.all c.loop-worker.invariant.1 c.resume-next.result c.resume-next.ensures c.combine.new.self c.in-Ok.ensures.ok,
    )

pub returns : goal.returns
returns c =
    let all : c.loop-worker._worker ≡ vec_len c.args.sinks = omega (arith, c.loop-worker-test.false, c.loop-worker.auto._worker-end, c.len-workers.ensures, c.requires.some) in
    c.loop-worker.invariant.1 ∙ ap (combined_to c.args.query.now c.args.partitions (vec_len c.args.sinks) (map (λ m. m.value) c.args.chunks.now)) all
