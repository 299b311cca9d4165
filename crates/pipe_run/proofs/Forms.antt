-- What a run gives by its frame, and by the lines of its groups.
use Rattle.std.proofs.Common.{◌≡◌, ◌∙◌, ℕ, List, sym, subst}
use Rattle.pipe_columns.specs.Frame.{FrameData}
use Rattle.pipe_lines.specs.Lines.{joined_texts, lines_of, LineText}
use Rattle.pipe_model.specs.Output.{output_schema}
use Rattle.pipe_plan.specs.declared.event.PartitionEvent.{PartitionEvent}
use Rattle.pipe_plan.specs.Run.{Run, StoreSeen}
use Rattle.pipe_asked.specs.declared.form.GroupsText.{GroupsText}
use Rattle.pipe_run.specs.Answered.{IsAnswered}
use Rattle.pipe_run.specs.AnsweredText.{IsAnsweredText}
use Rattle.pipe_run.specs.Wholes.{IsAnsweredBy}

module _ (r : Run) (journals : List (List PartitionEvent)) (overflow : ℕ) (stores : List StoreSeen) where
  -- by its frame
  pub by-frame : (whole : FrameData) → IsAnsweredBy (λ w f. w ≡ f) r whole journals overflow stores → IsAnswered r (record { frame = whole; journals = journals; overflow = overflow }) stores
  by-frame whole by = subst (λ f. IsAnswered r (record { frame = f; journals = journals; overflow = overflow }) stores) (sym by.is) by.answered

  -- by the lines of its groups
  pub by-text : (t : LineText) (whole : GroupsText) → t.fields ≡ output_schema r.query
      → IsAnsweredBy (λ w f. (joined_texts w.texts.items ≡ lines_of t f) × (w.height ≡ f.height)) r whole journals overflow stores
      → IsAnsweredText t r (record { text = whole; journals = journals; overflow = overflow }) stores
  by-text t whole fields by = record { frame = by.frame; fits = by.fits ∙ sym fields; height = by.is.1; lines = by.is.0; answered = by.answered }
