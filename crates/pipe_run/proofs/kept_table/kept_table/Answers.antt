use Rattle.std.proofs.Common.{rules, ◌≡◌, ◌∙◌, ◌∷◌, ◌+◌, false, List, map, subst, sym, ap, arith, length, []}
use Rattle.std.specs.Vec.Iter.{into_iter_items, into_iter_len}
use Rattle.pipe_plan.specs.Run.{Run}
use Rattle.pipe_workers.specs.declared.paused.PausedWorker.{PausedWorker}
use Rattle.pipe_run.specs.Setting.{run_over}
use Rattle.pipe_asked.proofs.Lists.{none-left}
use Rattle.pipe_run.proofs.KeptTables.{holds-all, holds-first, holds-next, HoldsFirst, next-few, next-shape}
use Rattle.pipe_run.proofs.kept_table.kept_table.Goals as goal

pub workers-init : goal.workers-init
workers-init g c =
    let r : Run = run_over c.args.begun.now false (map (λ m. m.value) c.args.chunks.now) in
    let items : c.args.rests.items ≡ c.in-Some.first ∷ into_iter_items c.next.new.self = search rules in
    let one : into_iter_len c.next.new.self + 1 ≡ into_iter_len c.into_iter-waiting.result = c.in-Some.ensures.cases.1 in (
      holds-first r c.args.rests.items c.requires.kept c.in-Some.first (into_iter_items c.next.new.self) c.map_of-kept.result items c.map_of-kept.ensures,
      omega (arith, one, c.into_iter-waiting.ensures.len, c.args.rests.ok.0, ap (λ (l : List PausedWorker). length l) items),
    )

pub combine_next-requires-clause-shape : goal.combine_next-requires-clause-shape
combine_next-requires-clause-shape g c =
    let r : Run = run_over c.args.begun.now false (map (λ m. m.value) c.args.chunks.now) in
    let items : into_iter_items c.workers.waiting ≡ c.in-Some-next.rest ∷ into_iter_items c.next-in-workers.new.self = search rules in
    let h = subst (λ (l : List PausedWorker). HoldsFirst r c.args.rests.items l c.workers.kept) items c.workers.invariant.0 in
    next-shape r c.args.rests.items c.requires.kept c.workers.kept c.in-Some-next.rest (into_iter_items c.next-in-workers.new.self) h

pub combine_next-requires-clause-few : goal.combine_next-requires-clause-few
combine_next-requires-clause-few g c =
    let r : Run = run_over c.args.begun.now false (map (λ m. m.value) c.args.chunks.now) in
    let items : into_iter_items c.workers.waiting ≡ c.in-Some-next.rest ∷ into_iter_items c.next-in-workers.new.self = search rules in
    let h = subst (λ (l : List PausedWorker). HoldsFirst r c.args.rests.items l c.workers.kept) items c.workers.invariant.0 in
    next-few r c.args.rests.items c.requires.kept c.workers.kept c.in-Some-next.rest (into_iter_items c.next-in-workers.new.self) h c.requires.run

pub workers-preserved : goal.workers-preserved
workers-preserved g c =
    let r : Run = run_over c.args.begun.now false (map (λ m. m.value) c.args.chunks.now) in
    let items : into_iter_items c.workers.waiting ≡ c.in-Some-next.rest ∷ into_iter_items c.next-in-workers.new.self = search rules in
    let h = subst (λ (l : List PausedWorker). HoldsFirst r c.args.rests.items l c.workers.kept) items c.workers.invariant.0 in
    let one : into_iter_len c.next-in-workers.new.self + 1 ≡ into_iter_len c.workers.waiting = c.in-Some-next.ensures.cases.1 in (
      holds-next r c.args.rests.items c.requires.kept c.workers.kept c.in-Some-next.rest (into_iter_items c.next-in-workers.new.self) h c.combine_next.new.kept c.in-Ok.ensures.shape c.in-Ok.ensures.joined,
      omega (arith, one, c.workers.invariant.1, ap (λ (l : List PausedWorker). length l) items),
    )

pub returns-in-None-clause-holds : goal.returns-in-None-clause-holds
returns-in-None-clause-holds g c =
    let r : Run = run_over c.args.begun.now false (map (λ m. m.value) c.args.chunks.now) in
    let none : into_iter_items c.workers.waiting ≡ [] = none-left (into_iter_items c.workers.waiting) (sym c.workers.invariant.1 ∙ c.in-None.ensures.cases.0) in
    holds-all r c.args.rests.items c.requires.kept c.workers.kept (subst (λ (l : List PausedWorker). HoldsFirst r c.args.rests.items l c.workers.kept) none c.workers.invariant.0)
