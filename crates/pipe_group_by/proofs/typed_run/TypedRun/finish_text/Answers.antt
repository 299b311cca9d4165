use Rattle.std.proofs.Common.{◌∙◌, false, List, map, subst, sym}
use Rattle.std.specs.Prelude.{IfOk, Result}
use Rattle.pipe_columns.specs.Frame.{FitsSchema}
use Rattle.pipe_aggs.specs.QueryTrees.{query_tree}
use Rattle.pipe_model.specs.Output.{output_schema}
use Rattle.pipe_plan.specs.Run.{StoreSeen}
use Rattle.pipe_run.specs.declared.error.PipeError.{PipeError}
use Rattle.pipe_run.specs.declared.output.GroupByOutput.{GroupByOutput}
use Rattle.pipe_run.specs.Answered.{IsAnswered}
use Rattle.pipe_run.specs.Setting.{run_over}
use Rattle.pipe_group_by.proofs.Texts.{text-answered}
use Rattle.pipe_group_by.proofs.typed_run.TypedRun.finish_text.Goals as goal

pub text_of-requires : goal.text_of-requires
text_of-requires g c =
    subst (λ (r : Result GroupByOutput PipeError). IfOk r (λ out. FitsSchema (output_schema (query_tree c.args.self.setting.query)) out.frame)) c.in-Ok.is c.finish-given.ensures.fits ∙ sym c.requires

pub returns-in-Ok-text_of-clause-answered : goal.returns-in-Ok-text_of-clause-answered
returns-in-Ok-text_of-clause-answered g c =
    let run = run_over c.args.self.setting false c.args.self.chunks in
    let stores : List StoreSeen = map (λ s. record { held = g.S.SpillStore.held s; told = g.S.SpillStore.told s; faults = g.S.SpillStore.faults s; sure = g.S.SpillStore.sure s; path = g.S.SpillStore.path s }) c.finish-given.result.1.items in
    let fits = subst (λ (r : Result GroupByOutput PipeError). IfOk r (λ out. FitsSchema (output_schema (query_tree c.args.self.setting.query)) out.frame)) c.in-Ok.is c.finish-given.ensures.fits in
    let answered = subst (λ (r : Result GroupByOutput PipeError). IfOk r (λ out. IsAnswered run out stores)) c.in-Ok.is c.finish-given.ensures.answered in
    text-answered (g.L.Lines.shape c.args.lines.now) run c.in-Ok.output c.in-Ok-text_of.text stores fits c.requires c.in-Ok-text_of.ensures answered
