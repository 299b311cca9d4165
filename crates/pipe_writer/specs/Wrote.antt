-- What a writer has written of what came to it.
use Rattle.std.specs.Prelude.{◌≡◌, ◌++◌, ℕ, List, [], Bool, true, false, Some, IsErrOf, OnOk, is_some}
use Rattle.crossbeam_channel.specs.Claims.{view}
use Rattle.crossbeam_channel.specs.Ends.{receives_on}
use Rattle.pipe_columns.specs.Causes.{Rose}
use Rattle.pipe_columns.specs.declared.data_chunk.DataChunk.{DataChunk}
use Rattle.pipe_files_sink.specs.Core.{HasTaken}
use Rattle.pipe_files_sink.specs.Telling.{TellsSince}
use Rattle.pipe_writers.specs.WriteOrder.{rows_of_chunks, write_order}
use Rattle.pipe_writers.specs.Writers.{TellsFront}
use Rattle.pipe_writers.specs.declared.sink_writer.SinkWriter.{Ghosts}
use Rattle.pipe_writers.specs.declared.write_error.WriteError.TheVariants as write_error
use Rattle.pipe_writer.specs.Taken.{arrivals_of, chunks_of}
use Rattle.pipe_writer.specs.declared.channel_writer.ChannelWriter.{ChannelWriter}
use Rattle.pipe_writer.specs.declared.message.SentChunk.{SentChunk}
use Rattle.pipe_writer.specs.declared.ruled_end.RuledEnd.{RuledEnd}
use Rattle.pipe_writer.specs.declared.writing.Writing.{Writing}

-- the text of chunks that a writer was given in some order, in pieces of so many
abbrev pub text_of : {Writer : Type 0} → (kind : Ghosts Writer) → Writer → Bool → ℕ → List DataChunk → List ℕ
text_of kind made maintain morsels chunks = kind.text (kind.format made) (rows_of_chunks (write_order chunks morsels maintain))

module _ {Writer : Type 0} {kind : Ghosts Writer} where
  -- a writer that was this one took a front of what came, all of it where it goes on, and its text is
  -- that of what it took, or once it was refused a front of that
  pub record Wrote (made : Writer) (maintain : Bool) (morsels : ℕ) (w : Writing Writer kind) (came : List SentChunk) : Type 0 where
    pub taken : List SentChunk
    pub dropped : List SentChunk
    pub all : came ≡ taken ++ dropped
    pub arrivals : w.arrivals.items ≡ arrivals_of taken
    pub whole : w.core.ended ≡ false → w.wanting ≡ false → dropped ≡ []
    pub stood : w.core.ended ≡ false → (since : List ℕ) → kind.told made ≡ Some since
        → HasTaken (kind.stands w.core.core.writer) w.core.core (chunks_of taken) since
    pub front : w.core.ended ≡ true → (since : List ℕ) → kind.told made ≡ Some since
        → TellsFront (kind.told w.core.core.writer) since (text_of kind made maintain morsels (chunks_of taken))
    pub refused : w.core.ended ≡ true → is_some w.core.fault ≡ true
    pub same_format : kind.format w.core.core.writer ≡ kind.format made
    pub same_order : w.core.core.maintain_order ≡ maintain
    pub same_size : w.core.core.morsels ≡ morsels
    pub tells : is_some (kind.told w.core.core.writer) ≡ is_some (kind.told made)
    pub cause : TellsSince (kind.faults made) (kind.faults w.core.core.writer) w.core.fault

  -- the same of a writing that has ended so
  pub record HasEnded (made : Writer) (maintain : Bool) (morsels : ℕ) (w : Writing Writer kind) (end : RuledEnd Writer) (came : List SentChunk) : Type 0 where
    pub taken : List SentChunk
    pub dropped : List SentChunk
    pub all : came ≡ taken ++ dropped
    pub arrivals : end.arrivals.items ≡ arrivals_of taken
    pub whole : OnOk end.result (dropped ≡ [])
    pub text_is : OnOk end.result ((since : List ℕ) → kind.told made ≡ Some since
        → kind.told end.writer ≡ Some (since ++ text_of kind made maintain morsels (chunks_of taken)))
    pub front : (since : List ℕ) → kind.told made ≡ Some since
        → TellsFront (kind.told end.writer) since (text_of kind made maintain morsels (chunks_of taken))
    pub tells : is_some (kind.told end.writer) ≡ is_some (kind.told made)
    pub cause : IsErrOf end.result write_error.Output → Rose (kind.faults made) (kind.faults end.writer)

  -- a writer received more at its channel, and wrote what it received
  pub record HasRun (before after : ChannelWriter Writer kind) : Type 0 where
    pub same : receives_on after.receiving.from ≡ receives_on before.receiving.from
    pub known : view after.receiving.pass ≡ record (view before.receiving.pass) { got = (view after.receiving.pass).got }
    pub same_format : kind.format after.writing.core.core.writer ≡ kind.format before.writing.core.core.writer
    pub wrote : (made : Writer) → (maintain : Bool) → (morsels : ℕ)
        → Wrote made maintain morsels before.writing (view before.receiving.pass).got
        → Wrote made maintain morsels after.writing (view after.receiving.pass).got
