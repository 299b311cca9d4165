use Rattle.std.proofs.Common.{◌≡◌, ◌∙◌, IfOk, None, subst, sym}
use Rattle.pipe_aggs.specs.QueryTrees.{query_tree}
use Rattle.pipe_asked.specs.Sources.{unasked}
use Rattle.pipe_asked.specs.Wholes.{IsAnswerWhole}
use Rattle.pipe_asked.proofs.answer.answer_of_parts.Goals as goal

pub returns-in-None-clause-whole : goal.returns-in-None-clause-whole
returns-in-None-clause-whole g c =
    let none : (query_tree c.args.query.now).slice ≡ None = sym c.slice.ensures ∙ c.in-None.is in
    subst (λ slice. IfOk c.answer_side_by_side.result.0 (IsAnswerWhole (g.F.Form.is c.args.form.now) (unasked c.args.query.now c.args.closed.items c.args.local slice))) (sym none) c.answer_side_by_side.ensures.whole

pub returns-in_default-clause-whole : goal.returns-in_default-clause-whole
returns-in_default-clause-whole g c =
    subst (λ slice. IfOk c.answer_in_turn.result.0 (IsAnswerWhole (g.F.Form.is c.args.form.now) (unasked c.args.query.now c.args.closed.items c.args.local slice))) c.slice.ensures c.answer_in_turn.ensures.whole
