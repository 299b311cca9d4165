-- Of the proofs alone: the next file that has rows.
use Rattle.std.specs.Prelude.{◌≡◌, ◌<◌, Bool, true, false, length, Option, Some, None, IfSome}
use Rattle.pipe_io.specs.Files.{Files}
use Rattle.pipe_source.specs.CsvChunks.{no_more}
use Rattle.pipe_source.specs.Kept.{HasRowsLeft, state_behind, kept_state}
use Rattle.pipe_source.specs.Reader.{ReaderState, chunks_left}
use Rattle.pipe_source.specs.declared.kept_text.KeptText.{KeptText}
use Rattle.pipe_source.specs.declared.reading.Reading.{Reading}
use Rattle.pipe_source.specs.declared.source_place.SourcePlace.{SourcePlace}

-- a text is that of the next file behind a place that has wanted rows
pub record IsTextOfNext (what : Reading) (told : Option Files) (last : SourcePlace) (k : KeptText)
    : Type 0 where
  pub kept : HasRowsLeft what k
  pub some : 0 < k.left
  pub rows : k.at.rows ≡ last.rows
  pub chunks : k.at.chunks ≡ last.chunks
  pub same : IfSome told (λ files.
      chunks_left files (kept_state what k) ≡ chunks_left files (state_behind what last))

-- it is, or no file behind the place has wanted rows
abbrev pub IsNextText : Reading → Option Files → SourcePlace → Option KeptText → Type 0
IsNextText what told last None =
    IfSome told (λ files. chunks_left files (state_behind what last) ≡ no_more)
IsNextText what told last (Some k) = IsTextOfNext what told last k

-- a file with rows was read, or none is left and the reader is as before
abbrev pub IsLoadedNext : Bool → Option Files → ReaderState → ReaderState → Type 0
IsLoadedNext true told old new = 0 < length new.rows
IsLoadedNext false told old new =
    (new ≡ old) × IfSome told (λ files. chunks_left files old ≡ no_more)
