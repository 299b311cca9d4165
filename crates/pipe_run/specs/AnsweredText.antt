-- What a run answers as a text.
use Rattle.std.specs.Prelude.{◌≡◌, List}
use Rattle.pipe_columns.specs.Frame.{FitsSchema, FrameData}
use Rattle.pipe_lines.specs.Lines.{joined_texts, lines_of, LineText}
use Rattle.pipe_plan.specs.Run.{Run, StoreSeen}
use Rattle.pipe_run.specs.declared.output.TextOutput.{TextOutput}
use Rattle.pipe_run.specs.Answered.{IsAnswered}

-- what it means that a run was answered by a text: there is a frame of the lines' fields with which it
-- was answered, and the texts, one behind another, are the lines of its rows
pub record IsAnsweredText (t : LineText) (r : Run) (out : TextOutput) (stores : List StoreSeen)
    : Type 0 where
  pub frame : FrameData
  pub fits : FitsSchema t.fields frame
  pub height : out.text.height ≡ frame.height
  pub lines : joined_texts out.text.texts.items ≡ lines_of t frame
  pub answered : IsAnswered r
      (record { frame = frame; journals = out.journals; overflow = out.overflow }) stores
