-- Of the proofs alone: what a run that has ended gives, whatever its groups become.
use Rattle.std.specs.Prelude.{◌≡◌, ℕ, true, List, All}
use Rattle.pipe_columns.specs.Frame.{FitsSchema, FrameData}
use Rattle.pipe_model.specs.Answer.{answer}
use Rattle.pipe_model.specs.Output.{output_schema}
use Rattle.pipe_plan.specs.declared.event.PartitionEvent.{PartitionEvent}
use Rattle.pipe_plan.specs.Run.{Run, StoreSeen, tells}
use Rattle.pipe_run.specs.Answered.{IsAnswered}

-- a whole is that of a frame of the query's columns, which is the answer where all stores tell
pub record IsRunWhole {W : Type 0} (Is : W → FrameData → Type 0) (r : Run) (whole : W) : Type 0 where
  pub frame : FrameData
  pub fits : FitsSchema (output_schema r.query) frame
  pub is : Is whole frame
  pub answer : All (λ s. tells s ≡ true) r.stores
      → frame ≡ answer r.chunks r.query r.limits.partitions

-- a run was answered by a whole: it is that of a frame of the query's columns with which it was answered
pub record IsAnsweredBy {W : Type 0} (Is : W → FrameData → Type 0) (r : Run) (whole : W)
    (journals : List (List PartitionEvent)) (overflow : ℕ) (stores : List StoreSeen)
    : Type 0 where
  pub frame : FrameData
  pub fits : FitsSchema (output_schema r.query) frame
  pub is : Is whole frame
  pub answered :
      IsAnswered r (record { frame = frame; journals = journals; overflow = overflow }) stores
