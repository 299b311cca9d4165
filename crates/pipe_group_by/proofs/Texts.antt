-- What a run of typed sinks gives as text.
use Rattle.std.proofs.Common.{◌≡◌, ◌∙◌, ℕ, List, Result, Ok, Err, IfErr, OnOk, sym, ap, subst}
use Rattle.pipe_columns.specs.declared.data_chunk.DataChunk.{DataChunk}
use Rattle.pipe_columns.specs.Frame.{fields_of, FitsSchema, FrameData}
use Rattle.pipe_lines.specs.Lines.{LineText}
use Rattle.pipe_model.specs.Answer.{answer}
use Rattle.pipe_model.specs.Output.{output_schema}
use Rattle.pipe_model.specs.Query.{QueryTree}
use Rattle.pipe_groups.proofs.FrameRows.{frame-fields}
use Rattle.pipe_plan.specs.declared.event.PartitionEvent.{PartitionEvent}
use Rattle.pipe_plan.specs.Run.{Run, StoreSeen}
use Rattle.pipe_run.specs.declared.output.GroupByOutput.{GroupByOutput}
use Rattle.pipe_run.specs.declared.output.TextOutput.{TextOutput}
use Rattle.pipe_run.specs.Answered.{IsAnswered}
use Rattle.pipe_run.specs.AnsweredText.{IsAnsweredText}
use Rattle.pipe_group_by.specs.Typed.{IsTextOf}

-- an answer has the query's columns
pub answer-fits : (chunks : List DataChunk) (q : QueryTree) (partitions : ℕ) (f : FrameData) → f ≡ answer chunks q partitions → FitsSchema (output_schema q) f
answer-fits chunks q partitions f is = ap (λ (g : FrameData). fields_of g.columns) is ∙ frame-fields 0 (output_schema q) _

-- what was answered by a frame is answered by the lines of its rows
pub text-answered : (t : LineText) (r : Run) (out : GroupByOutput) (text : TextOutput) (stores : List StoreSeen) → FitsSchema (output_schema r.query) out.frame → t.fields ≡ output_schema r.query
    → IsTextOf t out text → IsAnswered r out stores → IsAnsweredText t r text stores
text-answered t r out text stores fits fields is answered = record {
  frame = out.frame;
  fits = fits ∙ sym fields;
  height = is.height;
  lines = is.lines;
  answered = subst (λ (js : List (List PartitionEvent)). IsAnswered r (record { frame = out.frame; journals = js; overflow = text.overflow }) stores) (sym is.journals)
      (subst (λ (n : ℕ). IsAnswered r (record { frame = out.frame; journals = out.journals; overflow = n }) stores) (sym is.overflow) answered);
}

-- what holds holds on success
pub holds-on-ok : {A E : Type 0} (r : Result A E) (P : Type 0) → P → OnOk r P
holds-on-ok (Ok a) P p = p
holds-on-ok (Err e) P p = tt

-- and on a refusal
pub holds-if-err : {A E : Type 0} (r : Result A E) (P : Type 0) → P → IfErr r (λ e. P)
holds-if-err (Ok a) P p = tt
holds-if-err (Err e) P p = p
