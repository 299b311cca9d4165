-- Of the proofs alone: chunks that are taken round by round, and the text of their state.
use Rattle.std.specs.Prelude.{◌≡◌, ℕ, List, Option, IfSome}
use Rattle.pipe_columns.specs.declared.data_chunk.DataChunk.{DataChunk}
use Rattle.pipe_io.specs.Files.{Files}
use Rattle.pipe_model.specs.Query.{QueryTree}
use Rattle.pipe_source.specs.CsvChunks.{chunks_then}
use Rattle.pipe_source.specs.Reader.{chunks_left, ReaderState}
use Rattle.pipe_states.specs.States.{StateSeen}
use Rattle.pipe_states.specs.StateText.{state_text}
use Rattle.rollup_save.specs.Saves.{IsSavedOf}

-- where files are told, these chunks were taken of what was left first
abbrev pub WereTaken : Option Files → ReaderState → List DataChunk → ReaderState → Type 0
WereTaken told first taken now =
    IfSome told (λ files. chunks_left files first ≡ chunks_then taken (chunks_left files now))

-- a text is that of a state of chunks that a reader had left
pub record IsTextOf
    (q : QueryTree) (first : ℕ) (told : Option Files) (left : ReaderState) (text : List ℕ)
    : Type 0 where
  pub state : StateSeen
  pub saved : IsSavedOf q first told left state
  pub is : text ≡ state_text q state
