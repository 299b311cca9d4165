use Rattle.std.proofs.Common.{rules, ◌≡◌, ◌∙◌, ◌<◌, List, None, Ok, ℕ, ap, length, map, refl, slice_index_or, subst}
use Rattle.std.proofs.lemmas.List.{with_items_is, places}
use Rattle.std.proofs.lemmas.Result.{IfErr-weaker, IfOk-weaker}
use Rattle.pipe_keyed.specs.Tables.{Table}
use Rattle.pipe_asked.specs.declared.tasks.FinishTask.{FinishTask}
use Rattle.pipe_asked.specs.Left.{CountOn}
use Rattle.pipe_asked.specs.Sources.{IsGiveCause, unasked}
use Rattle.pipe_asked.specs.Tasks.{AreKept, IsFirstRefusal, IsPartOf}
use Rattle.pipe_asked.proofs.SideBySide.{source-shape, tasks-calm, tasks-can, tasks-cause, tasks-kept, tasks-parts}
use Rattle.pipe_asked.proofs.side_by_side.finish_all.Goals as goal

pub cut_by_partition-requires-clause-shape : goal.cut_by_partition-requires-clause-shape
cut_by_partition-requires-clause-shape g c = source-shape (unasked c.args.query.now c.args.closed.items c.args.local None) c.requires.source refl c.requires.some

pub finish_each-requires-clause-can : goal.finish_each-requires-clause-can
finish_each-requires-clause-can g c κs within p d lt =
    let s = unasked c.args.query.now c.args.closed.items c.args.local None in
    let is = g.K.Keep.is c.args.keep.now in
    let count : c.len-count.result ≡ length c.args.closed.items = search rules in
    let cut = subst (λ n. (p : ℕ) (d : Table) → p < n → IsPartOf n p c.args.local (slice_index_or c.in-Ok.locals.items p d)) count c.in-Ok.ensures.parts in
    let old : List (FinishTask g.row.S.Denot g.row.K-Kept.Denot) = c.as_mut_slice.result.now in
    let lent : old ≡ c.tasks_of-tasks.result.items = c.as_mut_slice.ensures.value in
    let partitions = ap (λ l. map (λ t. t.partition) l) lent ∙ c.tasks_of-tasks.ensures.partitions in
    let locals = ap (λ l. map (λ t. t.local) l) lent ∙ c.tasks_of-tasks.ensures.locals in
    tasks-can is (λ t. t.partition) (λ t. t.local) (λ t. t.given) s c.requires.source refl c.in-Ok.locals.items old old partitions locals cut (g.K.Keep.takes c.args.keep.now) c.requires.takes p d lt

pub returns-clause-parts : goal.returns-clause-parts
returns-clause-parts g c =
    let s = unasked c.args.query.now c.args.closed.items c.args.local None in
    let is = g.K.Keep.is c.args.keep.now in
    let count : c.len-count.result ≡ length c.args.closed.items = search rules in
    let cut = subst (λ n. (p : ℕ) (d : Table) → p < n → IsPartOf n p c.args.local (slice_index_or c.in-Ok.locals.items p d)) count c.in-Ok.ensures.parts in
    let old : List (FinishTask g.row.S.Denot g.row.K-Kept.Denot) = c.as_mut_slice.result.now in
    let lent : old ≡ c.tasks_of-tasks.result.items = c.as_mut_slice.ensures.value in
    let partitions = ap (λ l. map (λ t. t.partition) l) lent ∙ c.tasks_of-tasks.ensures.partitions in
    let locals = ap (λ l. map (λ t. t.local) l) lent ∙ c.tasks_of-tasks.ensures.locals in
    let new : List (FinishTask g.row.S.Denot g.row.K-Kept.Denot) = c.finish_each.new.tasks in
    let back = with_items_is c.tasks_of-tasks.result new (search (rules, places)) in
    let after = c.taken_apart.ensures.partitions ∙ ap (λ l. map (λ t. t.partition) l) back in
    IfOk-weaker c.taken_apart.result.0 (λ v. map Ok v.items ≡ map (λ t. t.given) _) (λ v. AreKept is s v.items)
    (λ v all. tasks-parts is (λ t. t.partition) (λ t. t.local) (λ t. t.given) s c.requires.source refl c.in-Ok.locals.items old new partitions locals cut c.finish_each.ensures.count c.finish_each.ensures.each c.taken_apart.result.1.items after v.items (all ∙ ap (λ l. map (λ t. t.given) l) back)) c.taken_apart.ensures.kept

pub returns-clause-calm : goal.returns-clause-calm
returns-clause-calm g c =
    let s = unasked c.args.query.now c.args.closed.items c.args.local None in
    let is = g.K.Keep.is c.args.keep.now in
    let count : c.len-count.result ≡ length c.args.closed.items = search rules in
    let cut = subst (λ n. (p : ℕ) (d : Table) → p < n → IsPartOf n p c.args.local (slice_index_or c.in-Ok.locals.items p d)) count c.in-Ok.ensures.parts in
    let old : List (FinishTask g.row.S.Denot g.row.K-Kept.Denot) = c.as_mut_slice.result.now in
    let lent : old ≡ c.tasks_of-tasks.result.items = c.as_mut_slice.ensures.value in
    let partitions = ap (λ l. map (λ t. t.partition) l) lent ∙ c.tasks_of-tasks.ensures.partitions in
    let locals = ap (λ l. map (λ t. t.local) l) lent ∙ c.tasks_of-tasks.ensures.locals in
    let new : List (FinishTask g.row.S.Denot g.row.K-Kept.Denot) = c.finish_each.new.tasks in
    let back = with_items_is c.tasks_of-tasks.result new (search (rules, places)) in
    let after = c.taken_apart.ensures.partitions ∙ ap (λ l. map (λ t. t.partition) l) back in
    IfOk-weaker c.taken_apart.result.0 (λ v. map Ok v.items ≡ map (λ t. t.given) _) (λ v. CountOn c.args.closed.items c.taken_apart.result.1.items)
    (λ v all. tasks-calm is (λ t. t.partition) (λ t. t.local) (λ t. t.given) s c.requires.source refl c.in-Ok.locals.items old new partitions locals cut c.finish_each.ensures.count c.finish_each.ensures.each c.taken_apart.result.1.items after v.items (all ∙ ap (λ l. map (λ t. t.given) l) back)) c.taken_apart.ensures.kept

pub returns-clause-kept : goal.returns-clause-kept
returns-clause-kept g c =
    let s = unasked c.args.query.now c.args.closed.items c.args.local None in
    let is = g.K.Keep.is c.args.keep.now in
    let count : c.len-count.result ≡ length c.args.closed.items = search rules in
    let cut = subst (λ n. (p : ℕ) (d : Table) → p < n → IsPartOf n p c.args.local (slice_index_or c.in-Ok.locals.items p d)) count c.in-Ok.ensures.parts in
    let old : List (FinishTask g.row.S.Denot g.row.K-Kept.Denot) = c.as_mut_slice.result.now in
    let lent : old ≡ c.tasks_of-tasks.result.items = c.as_mut_slice.ensures.value in
    let partitions = ap (λ l. map (λ t. t.partition) l) lent ∙ c.tasks_of-tasks.ensures.partitions in
    let locals = ap (λ l. map (λ t. t.local) l) lent ∙ c.tasks_of-tasks.ensures.locals in
    let new : List (FinishTask g.row.S.Denot g.row.K-Kept.Denot) = c.finish_each.new.tasks in
    let back = with_items_is c.tasks_of-tasks.result new (search (rules, places)) in
    let after = c.taken_apart.ensures.partitions ∙ ap (λ l. map (λ t. t.partition) l) back in
    tasks-kept is (λ t. t.partition) (λ t. t.local) (λ t. t.given) s c.requires.source refl c.in-Ok.locals.items old new partitions locals cut c.finish_each.ensures.count c.finish_each.ensures.each c.taken_apart.result.1.items after

pub returns-clause-cause : goal.returns-clause-cause
returns-clause-cause g c =
    let s = unasked c.args.query.now c.args.closed.items c.args.local None in
    let is = g.K.Keep.is c.args.keep.now in
    let count : c.len-count.result ≡ length c.args.closed.items = search rules in
    let cut = subst (λ n. (p : ℕ) (d : Table) → p < n → IsPartOf n p c.args.local (slice_index_or c.in-Ok.locals.items p d)) count c.in-Ok.ensures.parts in
    let old : List (FinishTask g.row.S.Denot g.row.K-Kept.Denot) = c.as_mut_slice.result.now in
    let lent : old ≡ c.tasks_of-tasks.result.items = c.as_mut_slice.ensures.value in
    let partitions = ap (λ l. map (λ t. t.partition) l) lent ∙ c.tasks_of-tasks.ensures.partitions in
    let locals = ap (λ l. map (λ t. t.local) l) lent ∙ c.tasks_of-tasks.ensures.locals in
    let new : List (FinishTask g.row.S.Denot g.row.K-Kept.Denot) = c.finish_each.new.tasks in
    let back = with_items_is c.tasks_of-tasks.result new (search (rules, places)) in
    let after = c.taken_apart.ensures.partitions ∙ ap (λ l. map (λ t. t.partition) l) back in
    IfErr-weaker c.taken_apart.result.0 (λ e. IsFirstRefusal (map (λ t. t.given) _) e) (λ e. IsGiveCause s (record s { partitions = c.taken_apart.result.1.items }) e)
    (λ e there. tasks-cause is (λ t. t.partition) (λ t. t.local) (λ t. t.given) s c.requires.source refl c.in-Ok.locals.items old new partitions locals cut c.finish_each.ensures.count c.finish_each.ensures.each c.taken_apart.result.1.items after e (subst (λ l. IsFirstRefusal (map (λ t. t.given) l) e) back there)) c.taken_apart.ensures.refused
