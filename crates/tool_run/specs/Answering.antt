-- What a run over files answers, why it ends early, and what it leaves of its stores.
use Rattle.std.specs.Prelude.{◌≡◌, Bool, true, false, List, Option}
use Rattle.pipe_columns.specs.declared.data_chunk.DataChunk.{DataChunk}
use Rattle.pipe_io.specs.Files.{Files}
use Rattle.pipe_plan.specs.Rounds.{IsFront}
use Rattle.pipe_plan.specs.Run.{StoreSeen}
use Rattle.pipe_lines.specs.Lines.{LineText}
use Rattle.pipe_run.specs.declared.output.GroupByOutput.{GroupByOutput}
use Rattle.pipe_run.specs.declared.output.TextOutput.{TextOutput}
use Rattle.pipe_run.specs.Answered.{HaveWholeFrames, IsAnswered}
use Rattle.pipe_run.specs.AnsweredText.{IsAnsweredText}
use Rattle.pipe_run.specs.Failing.{NoneFailed}
use Rattle.pipe_run.specs.Fed.{FedSeen}
use Rattle.pipe_run.specs.Finish.{IsFinishCause}
use Rattle.pipe_run.specs.Refusals.{AllHaveFields}
use Rattle.pipe_run.specs.Setting.{run_over, Setting}
use Rattle.pipe_source.specs.Reader.{ReaderState}
use Rattle.tool_made.specs.Made.{made}
use Rattle.tool_made.specs.declared.made.Made.{Made}
use Rattle.tool_run.specs.declared.error.FileRunError.{FileRunError}
use Rattle.tool_run.specs.declared.error.FileRunError.TheVariants as error
use Rattle.tool_run.specs.Reading.{AreAll, are_few, ComeFirst, EndsBy}

-- the run over all chunks that a reader had left, which fit its query, was answered by lines
pub record IsAnsweredFrom
    (t : LineText) (x : Setting) (told : Option Files) (first : ReaderState) (out : TextOutput)
    (stores : List StoreSeen) : Type 0 where
  pub chunks : List DataChunk
  pub all : AreAll told first chunks
  pub few : are_few chunks ≡ true
  pub fit : AllHaveFields x.query.schema chunks
  pub answered : IsAnsweredText t (run_over x false chunks) out stores

-- the same run was answered by a frame
pub record IsFrameFrom
    (x : Setting) (told : Option Files) (first : ReaderState) (out : GroupByOutput)
    (stores : List StoreSeen) : Type 0 where
  pub chunks : List DataChunk
  pub all : AreAll told first chunks
  pub few : are_few chunks ≡ true
  pub fit : AllHaveFields x.query.schema chunks
  pub answered : IsAnswered (run_over x false chunks) out stores

-- why a run over files ends early: their reading does, and no store failed; or the store that is named
-- is the first that did; or a store doesn't tell, and the frame that is named is one that the run put
-- there; or memory ran out
abbrev pub IsRunEnd :
    FedSeen → Option Files → ReaderState → List StoreSeen → FileRunError → Type 0
IsRunEnd s told first stores (error.Read e) = EndsBy told first e × NoneFailed s.stores stores
IsRunEnd s told first stores (error.Run e) = IsFinishCause s stores e

-- the chunks that a run was fed of files, where they are told: the first that were left, and all of
-- them where no more may follow
abbrev pub AreFedOf : Option Files → ReaderState → Bool → List DataChunk → Type 0
AreFedOf told first true chunks = ComeFirst told first chunks
AreFedOf told first false chunks = AreAll told first chunks

-- the chunks that a run was fed of generated rows: the first, and all of them where no more may follow
abbrev pub AreFedMade : Made → Bool → List DataChunk → Type 0
AreFedMade m true chunks = IsFront chunks (made m)
AreFedMade m false chunks = chunks ≡ made m

-- stores have their former frames, and then whole frames of a run over chunks that were fed so, which
-- fit its query
pub record HaveFront
    (x : Setting) (Fed : Bool → List DataChunk → Type 0) (stores : List StoreSeen) : Type 0 where
  pub chunks : List DataChunk
  pub is_open : Bool
  pub fed : Fed is_open chunks
  pub fit : AllHaveFields x.query.schema chunks
  pub frames : HaveWholeFrames (run_over x is_open chunks) stores
