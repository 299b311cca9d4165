use Rattle.std.proofs.Common.{◌≡◌, ◌∙◌, [], List, ap, false, sym, subst}
use Rattle.pipe_aggs.specs.declared.query.Query.{Query}
use Rattle.pipe_aggs.specs.QueryTrees.{query_tree}
use Rattle.pipe_columns.specs.declared.schema.Field.{Field}
use Rattle.pipe_columns.specs.Frame.{frame_of}
use Rattle.pipe_model.specs.Output.{output_schema}
use Rattle.pipe_asked.specs.Stacking.{alone}
use Rattle.pipe_asked.proofs.Asking.{cause-later}
use Rattle.pipe_asked.proofs.InTurn.{joining-whole, joining-wholes}
use Rattle.pipe_asked.proofs.Joined.{joining-none}
use Rattle.pipe_asked.proofs.in_turn.joined_wholes.Goals as goal

pub parts-init : goal.parts-init
parts-init g c =
    let is = g.F.Form.is c.args.form.now in
    let schema : c.output_schema.result.now ≡ output_schema (query_tree c.args.asked.now.query) = c.output_schema.ensures.schema ∙ ap (λ (q : Query). output_schema (query_tree q)) (sym c.requires.query) in
    joining-none is (alone c.args.asked.now) c.in-Ok.whole (subst (λ (fields : List Field). is c.in-Ok.whole (frame_of fields [])) schema c.in-Ok.ensures)

pub returns-in-Err-clause-cause : goal.returns-in-Err-clause-cause
returns-in-Err-clause-cause g c =
    cause-later c.args.asked.now c.parts.asked c.next_whole.new.asked c.in-Err.error c.parts.invariant.kept c.parts.invariant.others c.in-Err.ensures.cause

pub parts-preserved : goal.parts-preserved
parts-preserved g c =
    let unordered : (query_tree c.args.asked.now.query).keeps_order ≡ false = ap (λ (q : Query). (query_tree q).keeps_order) c.requires.query ∙ c.requires.order in
    joining-whole (g.F.Form.is c.args.form.now) c.args.asked.now c.parts.asked c.parts.whole c.parts.invariant unordered c.is_done.ensures.source (sym c.parts-test.ensures.is)
    c.next_whole.new.asked c.in-Ok-next_whole.more c.put_below.new.whole c.in-Ok-next_whole.ensures.whole c.in-Ok-next_whole.ensures.given c.in-Ok-next_whole.ensures.others c.in-Ok-next_whole.ensures.stands c.in-Ok-put_below.ensures

pub returns-clause-whole : goal.returns-clause-whole
returns-clause-whole g c =
    let unordered : (query_tree c.args.asked.now.query).keeps_order ≡ false = ap (λ (q : Query). (query_tree q).keeps_order) c.requires.query ∙ c.requires.order in
    joining-wholes (g.F.Form.is c.args.form.now) c.args.asked.now c.parts.asked c.parts.whole c.parts.invariant unordered (sym c.parts-test.ensures.is)
