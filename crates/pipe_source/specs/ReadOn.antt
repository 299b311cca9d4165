-- Of the proofs alone: chunks that are read of one file after another.
use Rattle.std.specs.Prelude.{◌≡◌, ◌≤◌, ◌<◌, ◌++◌, ℕ, List, length, Option, Some, None, IfSome, ⊤}
use Rattle.std.specs.List.{All}
use Rattle.pipe_columns.specs.declared.data_chunk.DataChunk.{DataChunk}
use Rattle.pipe_columns.specs.Frame.{FitsSchema}
use Rattle.pipe_io.specs.Files.{Files}
use Rattle.pipe_source.specs.CsvChunks.{chunks_then, no_more}
use Rattle.pipe_source.specs.Reader.{ReaderState, given_fields, chunks_left}
use Rattle.pipe_source.specs.Kept.{HasRowsLeft, IsSourcePlace, state_behind, kept_state}
use Rattle.pipe_source.specs.declared.kept_text.KeptText.{KeptText}
use Rattle.pipe_source.specs.declared.reading.Reading.{Reading}
use Rattle.pipe_source.specs.declared.source_place.SourcePlace.{SourcePlace}

-- chunks were read of the next file behind a place, so many in all at most
pub record HasReadNext
    (what : Reading) (told : Option Files) (last : SourcePlace) (before now : List DataChunk)
    (count : ℕ) (k : KeptText) : Type 0 where
  pub kept : HasRowsLeft what k
  pub more : List DataChunk
  pub pushed : now ≡ before ++ more
  pub some : length before < length now
  pub few : length now ≤ count
  pub left : IfSome told (λ files. chunks_left files (state_behind what last)
      ≡ chunks_then more (chunks_left files (kept_state what k)))
  pub fit : All (λ c. FitsSchema (given_fields (state_behind what last)) c.frame) more
  pub place : IsSourcePlace what k.at
  pub all : length now < count → IfSome told (λ files.
      chunks_left files (kept_state what k) ≡ chunks_left files (state_behind what k.at))

-- they were, or no file behind the place has wanted rows
abbrev pub HasReadNextText :
    Reading → Option Files → SourcePlace → List DataChunk → List DataChunk → ℕ
    → Option KeptText → Type 0
HasReadNextText what told last before now count None =
    (now ≡ before) × IfSome told (λ files. chunks_left files (state_behind what last) ≡ no_more)
HasReadNextText what told last before now count (Some k) =
    HasReadNext what told last before now count k

-- where a reader stands that has read on behind a place
abbrev pub state_ahead : Reading → SourcePlace → Option KeptText → ReaderState
state_ahead what first None = state_behind what first
state_ahead what first (Some k) = kept_state what k

-- what it keeps of the text that it read last
abbrev pub IsKeptAhead : Reading → Option KeptText → Type 0
IsKeptAhead what None = ⊤
IsKeptAhead what (Some k) = HasRowsLeft what k

-- chunks were read of files behind a place
pub record HasReadOn
    (what : Reading) (told : Option Files) (first : SourcePlace) (before now : List DataChunk)
    (ahead : Option KeptText) : Type 0 where
  pub kept : IsKeptAhead what ahead
  pub more : List DataChunk
  pub pushed : now ≡ before ++ more
  pub left : IfSome told (λ files. chunks_left files (state_behind what first)
      ≡ chunks_then more (chunks_left files (state_ahead what first ahead)))
  pub fit : All (λ c. FitsSchema (given_fields (state_behind what first)) c.frame) more
