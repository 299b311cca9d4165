-- Of the proofs alone: a channel to a writer as it is made.
use Rattle.std.specs.Prelude.{◌≡◌, ◌≤◌, ℕ, List, [], ◌∷◌, IfSome, Option, Some, length, vec_capacity}
use Rattle.crossbeam_channel.specs.Claims.{view}
use Rattle.crossbeam_channel.specs.Ends.{receives_on}
use Rattle.pipe_columns.specs.declared.schema.Field.{Field}
use Rattle.pipe_writer.specs.Arrivals.{list_of}
use Rattle.pipe_writer.specs.Sender.{SenderSeen, WriterChannel}
use Rattle.pipe_writer.specs.declared.line.Line.{Line}
use Rattle.pipe_writer.specs.declared.receiving.Receiving.{Receiving}

-- a receiving end that has made the passes of so many senders, and joined none
pub record IsWaiting (fields : List Field) (senders : ℕ) (r : Receiving) : Type 0 where
  pub none_got : (view r.pass).got ≡ []
  pub none_sent : (view r.pass).sent ≡ []
  pub made_are : (view r.pass).made ≡ senders
  pub fields_are : (view r.pass).fields ≡ fields

-- a sender that took nothing
abbrev pub new_sender : ℕ → List Field → Option WriterChannel → SenderSeen
new_sender number fields channel = record { number = number; sent = 0; list = []; fields = fields; channel = channel }

-- a channel with its senders
pub record IsLine {H : Type 0} (fields : List Field) (senders : ℕ) (line : Line H) : Type 0 where
  pub waits : IsWaiting fields senders line.receiving
  pub first : line.first ≡ new_sender 0 fields (Some (receives_on line.receiving.from))
  pub second : IfSome line.second (λ s. s ≡ new_sender 1 fields (Some (receives_on line.receiving.from)))
  pub count : senders ≡ length (line.first ∷ list_of line.second)
  pub room : senders ≤ vec_capacity line.ends
  pub none : line.ends.items ≡ []
