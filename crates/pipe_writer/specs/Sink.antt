-- A sink whose channel is proved, and what it has written once it has ended.
use Rattle.std.specs.Prelude.{◌≡◌, ◌≤◌, ◌+◌, ◌++◌, ℕ, List, [], ◌∷◌, Bool, Option, None, Some, IsErrOf, OnOk, map, take, slice_index_or}
use Rattle.std.specs.List.{range_with_len}
use Rattle.crossbeam_channel.specs.Claims.{view}
use Rattle.crossbeam_channel.specs.Ends.{receives_on}
use Rattle.pipe_columns.specs.Causes.{Rose}
use Rattle.pipe_columns.specs.declared.data_chunk.DataChunk.{DataChunk}
use Rattle.pipe_columns.specs.declared.schema.Field.{Field}
use Rattle.pipe_lines.specs.Rows.{Row}
use Rattle.pipe_writers.specs.WriteOrder.{rows_of_chunks, write_order}
use Rattle.pipe_writers.specs.declared.sink_writer.SinkWriter.{Ghosts}
use Rattle.pipe_writers.specs.declared.write_error.WriteError.TheVariants as write_error
use Rattle.pipe_writer.specs.Arrivals.{arrived, numbers_of}
use Rattle.pipe_writer.specs.Carries.{AreWhole}
use Rattle.pipe_writer.specs.Sender.{SenderSeen, WriterChannel}
use Rattle.pipe_writer.specs.Wrote.{Wrote}
use Rattle.pipe_writer.specs.declared.channel_writer.ChannelWriter.{ChannelWriter}
use Rattle.pipe_writer.specs.declared.ruled_end.RuledEnd.{RuledEnd}
use Rattle.pipe_writer.specs.declared.ruled_files_sink.Started.{Started}
use Rattle.pipe_writer.specs.declared.ruled_files_sink.Started.TheVariants as started

-- a sink: the writer that it was made of, as it was then, whether order is maintained, how many chunks
-- are a piece, the fields of what is written, how many senders it has, and its channel, where a thread
-- receives from it
pub record RuledSeen (Writer : Type 0) : Type 0 where
  pub made_of : Writer
  pub maintain_order : Bool
  pub morsels : ℕ
  pub fields : List Field
  pub senders : ℕ
  pub channel : Option WriterChannel

-- senders of a channel, in the order of their numbers, from some number on up to how many there are
abbrev pub AreFrom : Option WriterChannel → List Field → ℕ → ℕ → List SenderSeen → Type 0
AreFrom channel fields senders first [] = first ≡ senders
AreFrom channel fields senders first (s ∷ rest) =
    (s.number ≡ first) × (s.channel ≡ channel) × (s.fields ≡ fields) × AreFrom channel fields senders (first + 1) rest

-- all senders of a sink, in the order of their numbers
abbrev pub AreAllSenders : {Writer : Type 0} → RuledSeen Writer → List SenderSeen → Type 0
AreAllSenders sink senders = AreFrom sink.channel sink.fields sink.senders 0 senders

-- how many chunks the sender of a number took
abbrev pub sent_of : List SenderSeen → ℕ → ℕ
sent_of senders number = slice_index_or (map (λ s. s.sent) senders) number 0

-- the lists of senders
abbrev pub lists_in : List SenderSeen → List (List DataChunk)
lists_in senders = map (λ s. s.list) senders

-- no chunk was taken by a sender
abbrev pub AreUnused : List SenderSeen → Type 0
AreUnused [] = Unit {0}
AreUnused (s ∷ rest) = (s.sent ≡ 0) × (s.list ≡ []) × AreUnused rest

module _ {Writer : Type 0} {kind : Ghosts Writer} where
  -- the channel of a writer that was started
  abbrev pub channel_of : Started Writer kind → Option WriterChannel
  channel_of (started.Beside thread) = Some (receives_on thread.promise.writer.value.receiving.from)
  channel_of (started.Alone writer) = None

  -- of the proofs alone: nothing was joined yet, and passes of so many senders were made
  pub record IsReady (made : Writer) (maintain : Bool) (morsels senders : ℕ) (w : ChannelWriter Writer kind) : Type 0 where
    pub none_sent : (view w.receiving.pass).sent ≡ []
    pub made_are : (view w.receiving.pass).made ≡ senders
    pub fields_are : (view w.receiving.pass).fields ≡ kind.fields (kind.format made)
    pub wrote : Wrote made maintain morsels w.writing (view w.receiving.pass).got

  -- of the proofs alone: nothing came
  pub record IsIdle (made : Writer) (maintain : Bool) (morsels : ℕ) (w : ChannelWriter Writer kind) : Type 0 where
    pub whole : AreWhole ([] ∷ [] ∷ []) (view w.receiving.pass).got
    pub wrote : Wrote made maintain morsels w.writing (view w.receiving.pass).got

  -- of the proofs alone: a thread began so, or nothing came
  abbrev pub IsBegun : Writer → Bool → ℕ → ℕ → Started Writer kind → Type 0
  IsBegun made maintain morsels senders (started.Beside thread) = IsReady made maintain morsels senders thread.promise.writer.value
  IsBegun made maintain morsels senders (started.Alone writer) = IsIdle made maintain morsels writer

-- a sink has ended over what its senders took: with what its output tells, how often that failed, and
-- the text of rows
pub record IsSunk {Writer : Type 0} (told : Writer → Option (List ℕ)) (faults : Writer → ℕ) (text : List Row → List ℕ)
    (sink : RuledSeen Writer) (senders : List SenderSeen) (end : RuledEnd Writer) : Type 0 where
  pub all : OnOk end.result ((sender : ℕ) → numbers_of sender end.arrivals.items ≡ range_with_len 0 (sent_of senders sender))
  pub first : (sender : ℕ) → (n : ℕ) × (n ≤ sent_of senders sender) × (numbers_of sender end.arrivals.items ≡ range_with_len 0 n)
  pub whole : OnOk end.result ((since : List ℕ) → told sink.made_of ≡ Some since
      → told end.writer ≡ Some (since ++ text (rows_of_chunks (write_order (arrived end.arrivals.items (lists_in senders)) sink.morsels sink.maintain_order))))
  pub front : (since : List ℕ) → told sink.made_of ≡ Some since
      → (n : ℕ) × (told end.writer ≡ Some (since ++ take n (text (rows_of_chunks (write_order (arrived end.arrivals.items (lists_in senders)) sink.morsels sink.maintain_order)))))
  pub cause : IsErrOf end.result write_error.Output → Rose (faults sink.made_of) (faults end.writer)
