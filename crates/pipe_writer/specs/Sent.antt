-- The chunks of senders as a channel carries them.
use Rattle.std.specs.Prelude.{◌≡◌, ◌+◌, ◌==◌, ◌++◌, ℕ, List, [], ◌∷◌, filter, flat_map, map, length}
use Rattle.std.specs.List.{AllByRecursion}
use Rattle.pipe_columns.specs.declared.data_chunk.DataChunk.{DataChunk}
use Rattle.pipe_columns.specs.declared.schema.Field.{Field}
use Rattle.pipe_files_sink.specs.Joined.{IsWritable}
use Rattle.pipe_writer.specs.declared.message.Known.{Known}
use Rattle.pipe_writer.specs.declared.message.Message.{Message}
use Rattle.pipe_writer.specs.declared.message.Message.TheVariants as message
use Rattle.pipe_writer.specs.declared.message.SentChunk.{SentChunk}
use Rattle.pipe_writer.specs.declared.message.SentList.{SentList}

-- the chunk in a message, where it has one
abbrev pub chunk_in : Message → List SentChunk
chunk_in (message.Chunk sent) = sent ∷ []
chunk_in message.End = []

-- the chunks in messages
abbrev pub sent_in : List Message → List SentChunk
sent_in messages = flat_map chunk_in messages

-- those of a sender
abbrev pub of_sender : ℕ → List SentChunk → List SentChunk
of_sender sender sent = filter (λ c. c.sender == sender) sent

-- the chunks of a sender's list, with their numbers from some number on
abbrev pub numbered : ℕ → ℕ → List DataChunk → List SentChunk
numbered sender first [] = []
numbered sender first (chunk ∷ chunks) =
    record { sender = sender; number = first; chunk = chunk } ∷ numbered sender (first + 1) chunks

-- the list of a sender, one chunk longer
abbrev pub longer_by : DataChunk → SentList → SentList
longer_by chunk l = record l { chunks = l.chunks ++ chunk ∷ [] }

-- what a pass knows once it has sent a message
abbrev pub after_send : Known → Message → Known
after_send v (message.Chunk sent) = record v { sent = map (longer_by sent.chunk) v.sent }
after_send v message.End = v

-- what a pass knows once it has received a message
abbrev pub after_receive : Known → Message → Known
after_receive v m = record v { got = v.got ++ chunk_in m }

-- chunks that can be written
abbrev pub AreFit : List Field → List SentChunk → Type 0
AreFit fields sent = AllByRecursion (λ c. IsWritable fields c.chunk.frame) sent

-- what a pass may send: the next chunk of its one sender, where that can be written, and the end
abbrev pub MaySend : Known → Message → Type 0
MaySend v (message.Chunk sent) =
    (chunks : List DataChunk) × (v.sent ≡ record { sender = sent.sender; chunks = chunks } ∷ [])
    × (sent.number ≡ length chunks) × IsWritable v.fields sent.chunk.frame
MaySend v message.End = Unit {0}
