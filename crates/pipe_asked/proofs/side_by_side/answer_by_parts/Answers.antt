use Rattle.std.proofs.Common.{IfOk, List, None, subst}
use Rattle.std.proofs.lemmas.Result.{IfOk-weaker}
use Rattle.pipe_aggs.specs.QueryTrees.{query_tree}
use Rattle.pipe_model.specs.Output.{output_schema}
use Rattle.pipe_groups.specs.declared.placed_groups.PlacedGroups.{PlacedGroups}
use Rattle.pipe_asked.specs.Sources.{unasked}
use Rattle.pipe_asked.specs.Stacking.{all_frames}
use Rattle.pipe_asked.specs.Tasks.{AreKept, AreKeptOf}
use Rattle.pipe_asked.specs.Wholes.{IsAnswerWhole}
use Rattle.pipe_asked.proofs.SideBySide.{memory-cause, stacked-whole}
use Rattle.pipe_asked.proofs.side_by_side.answer_by_parts.Goals as goal

pub stacked_parts-requires-clause-kept : goal.stacked_parts-requires-clause-kept
stacked_parts-requires-clause-kept g c κs within =
    let s = unasked c.args.query.now c.args.closed.items c.args.local None in
    let parts : AreKept (λ w x. g.F.Form.is c.args.form.now w x.frame) s c.in-Ok.wholes.items = subst (λ r. IfOk r (λ v. AreKept (λ w x. g.F.Form.is c.args.form.now w x.frame) s v.items)) c.in-Ok.is c.finish_all-given.ensures.parts in
    (parts.groups, parts.of)

pub returns-in-Ok-clause-whole : goal.returns-in-Ok-clause-whole
returns-in-Ok-clause-whole g c =
    let s = unasked c.args.query.now c.args.closed.items c.args.local None in
    let q = query_tree c.args.query.now in
    let is = g.F.Form.is c.args.form.now in
    let parts : AreKept (λ w x. is w x.frame) s c.in-Ok.wholes.items = subst (λ r. IfOk r (λ v. AreKept (λ w x. is w x.frame) s v.items)) c.in-Ok.is c.finish_all-given.ensures.parts in
    IfOk-weaker c.stacked_parts.result (λ w. (gs : List PlacedGroups) → AreKeptOf (λ w x. is w x.frame) q c.in-Ok.wholes.items gs → is w (all_frames (output_schema q) gs)) (IsAnswerWhole is s)
    (λ w stacked. stacked-whole is s c.in-Ok.wholes.items w c.requires.some c.requires.slice c.requires.order parts (stacked parts.groups parts.of)) c.stacked_parts.ensures.whole

pub returns-in-Ok-clause-cause : goal.returns-in-Ok-clause-cause
returns-in-Ok-clause-cause g c =
    memory-cause (unasked c.args.query.now c.args.closed.items c.args.local None) (unasked c.args.query.now c.finish_all-given.result.1.items c.args.local None) c.stacked_parts.result c.stacked_parts.ensures.cause
