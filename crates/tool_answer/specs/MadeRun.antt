-- What a run of the tool over generated rows owes.
use Rattle.std.specs.Prelude.{◌≡◌, ℕ, List, All, false, length, map}
use Rattle.pipe_model.specs.Answer.{answer}
use Rattle.pipe_plan.specs.declared.event.PartitionEvent.{PartitionEvent}
use Rattle.pipe_plan.specs.Run.{StoreSeen}
use Rattle.pipe_run.specs.Answered.{IsAnswered}
use Rattle.pipe_run.specs.declared.output.GroupByOutput.{GroupByOutput}
use Rattle.pipe_words.specs.Plans.{PlanSeen}
use Rattle.tool_made.specs.Made.{made}
use Rattle.tool_made.specs.MadeQuery.{made_tree}
use Rattle.tool_made.specs.declared.made.Made.{Made}
use Rattle.tool_run.specs.MadeLines.{made_lines}
use Rattle.tool_stores.specs.StorePath.{store_paths}
use Rattle.tool_answer.specs.Asking.{asked_run}
use Rattle.tool_answer.specs.Ended.{IsMade}

-- the run over stores as they were made and over all chunks of the generated rows was answered
pub record HasMadeRun
    (p : PlanSeen) (m : Made) (out : GroupByOutput) (stores : List StoreSeen) : Type 0 where
  pub new : List StoreSeen
  pub are_made : All (IsMade p.spill_dir) new
  pub count : length new ≡ p.limits.partitions
  pub paths : map (λ s. s.path) new ≡ store_paths p.spill_dir p.limits.partitions
  pub answered : IsAnswered (asked_run p made_tree false (made m) new) out stores

-- such a run has these journals and these stores, and these are the lines that tell of it
pub record HasMadeLines
    (p : PlanSeen) (m : Made) (journals : List (List PartitionEvent)) (stores : List StoreSeen)
    (text : List ℕ) : Type 0 where
  pub out : GroupByOutput
  pub run : HasMadeRun p m out stores
  pub journals_are : journals ≡ out.journals
  pub text_is : text ≡ made_lines m.rows out

-- these lines tell of a run whose frame is the answer over the generated rows
pub record TellAnswer (p : PlanSeen) (m : Made) (text : List ℕ) : Type 0 where
  pub out : GroupByOutput
  pub frame_is : out.frame ≡ answer (made m) made_tree p.limits.partitions
  pub text_is : text ≡ made_lines m.rows out
