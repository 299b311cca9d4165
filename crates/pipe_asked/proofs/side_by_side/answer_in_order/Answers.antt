use Rattle.std.proofs.Common.{◌≡◌, IfOk, None, subst}
use Rattle.std.proofs.lemmas.Result.{IfOk-weaker}
use Rattle.pipe_aggs.specs.QueryTrees.{query_tree}
use Rattle.pipe_asked.specs.Sources.{unasked}
use Rattle.pipe_asked.specs.Stacking.{IsPlacedWhole}
use Rattle.pipe_asked.specs.Tasks.{AreKept}
use Rattle.pipe_asked.specs.Wholes.{IsAnswerWhole}
use Rattle.pipe_asked.proofs.SideBySide.{memory-cause, ordered-frames, ordered-whole}
use Rattle.pipe_asked.proofs.side_by_side.answer_in_order.Goals as goal

pub whole_by_place-requires-clause-frames : goal.whole_by_place-requires-clause-frames
whole_by_place-requires-clause-frames g c κs within =
    let s = unasked c.args.query.now c.args.closed.items c.args.local None in
    ordered-frames s c.in-Ok.placed.items (subst (λ r. IfOk r (λ v. AreKept (λ k x. k ≡ x) s v.items)) c.in-Ok.is c.finish_all-given.ensures.parts)

pub returns-in-Ok-clause-whole : goal.returns-in-Ok-clause-whole
returns-in-Ok-clause-whole g c =
    let s = unasked c.args.query.now c.args.closed.items c.args.local None in
    let is = g.F.Form.is c.args.form.now in
    let parts : AreKept (λ k x. k ≡ x) s c.in-Ok.placed.items = subst (λ r. IfOk r (λ v. AreKept (λ k x. k ≡ x) s v.items)) c.in-Ok.is c.finish_all-given.ensures.parts in
    IfOk-weaker c.whole_by_place.result (IsPlacedWhole is (query_tree c.args.query.now) c.in-Ok.placed.items) (IsAnswerWhole is s)
    (λ w placed. ordered-whole is s c.in-Ok.placed.items w c.requires.some c.requires.slice c.requires.order parts placed) c.whole_by_place.ensures.whole

pub returns-in-Ok-clause-cause : goal.returns-in-Ok-clause-cause
returns-in-Ok-clause-cause g c =
    memory-cause (unasked c.args.query.now c.args.closed.items c.args.local None) (unasked c.args.query.now c.finish_all-given.result.1.items c.args.local None) c.whole_by_place.result c.whole_by_place.ensures.cause
