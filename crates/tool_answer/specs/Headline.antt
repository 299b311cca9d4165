-- What a run of the tool owes: the answer, what is written of it, and what is left of its stores.
use Rattle.std.specs.Prelude.{◌≡◌, true, false, ℕ, Bool, List, [], All, length, map, Option, None, IfSome}
use Rattle.std.specs.Io.KnownBytes.{Appends}
use Rattle.pipe_columns.specs.declared.data_chunk.DataChunk.{DataChunk}
use Rattle.pipe_io.specs.Files.{Files}
use Rattle.pipe_io.specs.Output.{WroteFront}
use Rattle.pipe_model.specs.Answer.{answer}
use Rattle.pipe_model.specs.Query.{QueryTree}
use Rattle.pipe_plan.specs.declared.event.PartitionEvent.{PartitionEvent}
use Rattle.pipe_plan.specs.Rounds.{IsFront}
use Rattle.pipe_plan.specs.Run.{StoreSeen}
use Rattle.pipe_run.specs.Answered.{HaveWholeFrames, IsAnswered}
use Rattle.pipe_run.specs.Refusals.{AllHaveFields}
use Rattle.pipe_run.specs.declared.output.GroupByOutput.{GroupByOutput}
use Rattle.pipe_words.specs.Plans.{PlanSeen}
use Rattle.tool_made.specs.MadeQuery.{made_tree}
use Rattle.tool_run.specs.Answering.{AreFedMade}
use Rattle.tool_run.specs.Reading.{are_few}
use Rattle.tool_stores.specs.StorePath.{store_paths}
use Rattle.tool_words.specs.Asked.{Asked, asks, makes, refused}
use Rattle.tool_answer.specs.Asking.{asked_run, input_chunks}
use Rattle.tool_answer.specs.Formats.{text_in}
use Rattle.tool_answer.specs.Ended.{IsMade}
use Rattle.tool_answer.specs.MadeRun.{HasMadeLines, TellAnswer}

-- the text that a query owes over files
abbrev pub answer_text : Files → PlanSeen → QueryTree → List ℕ
answer_text files p q =
    text_in p.format (answer (input_chunks files p q).chunks q p.limits.partitions)

-- where files are told, these are the chunks of all that are read, and there is no stop
abbrev pub AreInput : PlanSeen → QueryTree → Option Files → List DataChunk → Type 0
AreInput p q told chunks =
    IfSome told (λ files. input_chunks files p q ≡ record { chunks = chunks; stop = None })

-- the run over stores as they were made and over all chunks of the files was answered
pub record HasRunTo
    (p : PlanSeen) (q : QueryTree) (told : Option Files) (out : GroupByOutput)
    (stores : List StoreSeen) : Type 0 where
  pub made : List StoreSeen
  pub are_made : All (IsMade p.spill_dir) made
  pub count : length made ≡ p.limits.partitions
  pub paths : map (λ s. s.path) made ≡ store_paths p.spill_dir p.limits.partitions
  pub chunks : List DataChunk
  pub are_input : AreInput p q told chunks
  pub few : are_few chunks ≡ true
  pub answered : IsAnswered (asked_run p q false chunks made) out stores

-- such a run has these journals and these stores, and this is the text of its frame
pub record HasAnswer
    (p : PlanSeen) (q : QueryTree) (told : Option Files)
    (journals : List (List PartitionEvent)) (stores : List StoreSeen) (text : List ℕ) : Type 0 where
  pub out : GroupByOutput
  pub run : HasRunTo p q told out stores
  pub journals_are : journals ≡ out.journals
  pub text_is : text ≡ text_in p.format out.frame

-- the run of what is asked for was answered, and the output grew by exactly the text of its frame, or
-- over generated rows by the lines that tell of it
abbrev pub IsWritten :
    Asked → Option Files → Option (List ℕ) → Option (List ℕ)
    → List (List PartitionEvent) → List StoreSeen → Type 0
IsWritten (refused r) told old new journals stores = ⊥
IsWritten (asks p q) told old new journals stores =
    (text : List ℕ) × HasAnswer p q told journals stores text × Appends old new text
IsWritten (makes p m) told old new journals stores =
    (text : List ℕ) × HasMadeLines p m journals stores text × Appends old new text

-- the run of what is asked for was answered, and the output grew by a front of that text
abbrev pub IsBegun :
    Asked → Option Files → Option (List ℕ) → Option (List ℕ)
    → List (List PartitionEvent) → List StoreSeen → Type 0
IsBegun (refused r) told old new journals stores = ⊥
IsBegun (asks p q) told old new journals stores =
    (text : List ℕ) × HasAnswer p q told journals stores text × WroteFront old new text
IsBegun (makes p m) told old new journals stores =
    (text : List ℕ) × HasMadeLines p m journals stores text × WroteFront old new text

-- where the input tells its files, the output grew by exactly the text that is owed over them; over
-- generated rows by the lines of a run whose frame is the answer
abbrev pub IsAnswerWritten :
    Asked → Option Files → Option (List ℕ) → Option (List ℕ) → Type 0
IsAnswerWritten (refused r) told old new = ⊥
IsAnswerWritten (asks p q) told old new =
    IfSome told (λ files. Appends old new (answer_text files p q))
IsAnswerWritten (makes p m) told old new =
    (text : List ℕ) × TellAnswer p m text × Appends old new text

-- the run of what is asked for was answered
abbrev pub HasRun :
    Asked → Option Files → List (List PartitionEvent) → List StoreSeen → Type 0
HasRun (refused r) told journals stores = ⊥
HasRun (asks p q) told journals stores = (text : List ℕ) × HasAnswer p q told journals stores text
HasRun (makes p m) told journals stores = (text : List ℕ) × HasMadeLines p m journals stores text

-- the chunks that a run was fed of the files, where they are told: the first that they give, and all
-- of them where no more may follow
abbrev pub AreFedInput :
    PlanSeen → QueryTree → Option Files → Bool → List DataChunk → Type 0
AreFedInput p q told true chunks =
    IfSome told (λ files. IsFront chunks (input_chunks files p q).chunks)
AreFedInput p q told false chunks = AreInput p q told chunks

-- stores have whole frames of a run that stopped, over chunks that were fed so and fit its query, and
-- no others
pub record HaveFront
    (p : PlanSeen) (q : QueryTree) (Fed : Bool → List DataChunk → Type 0)
    (stores : List StoreSeen) : Type 0 where
  pub made : List StoreSeen
  pub are_made : All (IsMade p.spill_dir) made
  pub count : length made ≡ p.limits.partitions
  pub paths : map (λ s. s.path) made ≡ store_paths p.spill_dir p.limits.partitions
  pub chunks : List DataChunk
  pub is_open : Bool
  pub fed : Fed is_open chunks
  pub fit : AllHaveFields q.schema chunks
  pub frames : HaveWholeFrames (asked_run p q is_open chunks made) stores

-- the run of what is asked for stopped: there are no journals
abbrev pub HasStopped :
    Asked → Option Files → List (List PartitionEvent) → List StoreSeen → Type 0
HasStopped (refused r) told journals stores = ⊥
HasStopped (asks p q) told journals stores =
    (journals ≡ []) × HaveFront p q (AreFedInput p q told) stores
HasStopped (makes p m) told journals stores =
    (journals ≡ []) × HaveFront p made_tree (AreFedMade m) stores

-- no run was begun: there are neither journals nor stores
abbrev pub HasNoRun : List (List PartitionEvent) → List StoreSeen → Type 0
HasNoRun journals stores = (journals ≡ []) × (stores ≡ [])
