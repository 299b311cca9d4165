-- What a sender has sent.
use Rattle.std.specs.Prelude.{◌≡◌, ◌++◌, ℕ, List, [], ◌∷◌, Option, None, Some, IfSome, length, option_map}
use Rattle.std.specs.List.{AllByRecursion}
use Rattle.std.specs.declared.alloc.Global.{Global}
use Rattle.atomic_table.specs.declared.badge.Badge.{Badge}
use Rattle.crossbeam_channel.specs.Claims.{view}
use Rattle.crossbeam_channel.specs.Ends.{sends_on}
use Rattle.crossbeam_channel.specs.declared.flavors.array.Doing.{Doing}
use Rattle.crossbeam_channel.specs.declared.flavors.array.Key.{Key}
use Rattle.crossbeam_channel.specs.declared.flavors.array.Lockers.{Lockers}
use Rattle.crossbeam_channel.specs.declared.flavors.array.Rounds.{Rounds}
use Rattle.crossbeam_channel.specs.declared.flavors.array.Rows.{Rows}
use Rattle.crossbeam_channel.specs.declared.flavors.array.Whole.{Whole}
use Rattle.pipe_columns.specs.declared.data_chunk.DataChunk.{DataChunk}
use Rattle.pipe_columns.specs.declared.schema.Field.{Field}
use Rattle.pipe_files_sink.specs.Joined.{IsWritable}
use Rattle.pipe_writer.specs.declared.message.Known.{Known}
use Rattle.pipe_writer.specs.declared.message.Message.{Message}
use Rattle.pipe_writer.specs.declared.message.SentList.{SentList}
use Rattle.pipe_writer.specs.declared.rule.Carried.{Carried}
use Rattle.pipe_writer.specs.declared.sender_way.SenderWay.{SenderWay}

-- a channel to a writer
abbrev pub WriterChannel : Type 0
WriterChannel = Rows (Badge (Key Message)) (Doing Message Known) (Rounds Carried) (Option Message) (Key Message) (Lockers Whole) Global

-- a sender: its number, how many chunks it took, which, the fields of what is written, and the
-- channel to the writer, where there is one
pub record SenderSeen : Type 0 where
  pub number : ℕ
  pub sent : ℕ
  pub list : List DataChunk
  pub fields : List Field
  pub channel : Option WriterChannel

-- a sender that has no channel any more
abbrev pub without_channel : SenderSeen → SenderSeen
without_channel s = record s { channel = None }

-- the chunks of the first list
abbrev pub first_chunks : List SentList → List DataChunk
first_chunks [] = []
first_chunks (l ∷ ls) = l.chunks

-- the chunks that were sent through a channel
abbrev pub sent_through : Option SenderWay → List DataChunk
sent_through None = []
sent_through (Some way) = first_chunks (view way.pass).sent

-- a way is that of one sender
abbrev pub IsOwn : ℕ → SenderWay → Type 0
IsOwn sender way = (view way.pass).sent ≡ record { sender = sender; chunks = first_chunks (view way.pass).sent } ∷ []

-- the channel of a way
abbrev pub channel_at : Option SenderWay → Option WriterChannel
channel_at way = option_map (λ w. sends_on w.to) way

-- of the proofs alone: what a sender keeps
pub record IsSender (number sent : ℕ) (fields : List Field) (way : Option SenderWay) (rest : List DataChunk) : Type 0 where
  pub count : sent ≡ length (sent_through way ++ rest)
  pub own : IfSome way (IsOwn number)
  pub fields_are : IfSome way (λ w. (view w.pass).fields ≡ fields)
  pub fit : AllByRecursion (λ c. IsWritable fields c.frame) rest
