-- What a channel to a writer holds of what its senders sent.
use Rattle.std.specs.Prelude.{◌≡◌, ◌++◌, ◌<◌, ◌≤◌, ◌+◌, ℕ, List, [], ◌∷◌, true, false, length, map, slice_index_or}
use Rattle.std.specs.List.{AllByRecursion}
use Rattle.pipe_columns.specs.declared.data_chunk.DataChunk.{DataChunk}
use Rattle.pipe_columns.specs.declared.schema.Field.{Field}
use Rattle.pipe_writer.specs.Sent.{AreFit, numbered, of_sender, sent_in}
use Rattle.pipe_writer.specs.declared.message.Known.{Known}
use Rattle.pipe_writer.specs.declared.message.Message.{Message}
use Rattle.pipe_writer.specs.declared.message.SentChunk.{SentChunk}
use Rattle.pipe_writer.specs.declared.message.SentList.{SentList}
use mathlib.Core.Option.{some}
use lib.ListN.{get_elem?}

-- the one pass that receives knows what it received, and for how many senders passes were made
abbrev pub FitsReceiver : ℕ → ℕ → List Field → List SentChunk → ℕ → Known → Type 0
FitsReceiver reader made fields got pass v =
    v.receives ≡ true
    → (pass ≡ reader) × (v.got ≡ got) × (v.made ≡ made) × (0 < made → v.fields ≡ fields)

-- a pass is that of a sender, and knows what that one sent
pub record FitsSender (seat : ℕ → ℕ) (sent : ℕ → List DataChunk) (made : ℕ) (fields : List Field) (pass : ℕ) (v : Known)
    (l : SentList) : Type 0 where
  pub seat_is : seat l.sender ≡ pass
  pub sent_is : l.chunks ≡ sent l.sender
  pub is_made : l.sender < made
  pub fields_are : v.fields ≡ fields

-- the same of each sender whose pass it is
abbrev pub FitsSenders : (ℕ → ℕ) → (ℕ → List DataChunk) → ℕ → List Field → ℕ → Known → Type 0
FitsSenders seat sent made fields pass v =
    AllByRecursion (FitsSender seat sent made fields pass v) v.sent

-- what each sender sent is what was received of it and then what the channel holds of it, numbered
-- from 0 on
pub record Carries (items : List Message) (views : List Known) : Type 0 where
  pub reader : ℕ
  pub made : ℕ
  pub fields : List Field
  pub got : List SentChunk
  pub seat : ℕ → ℕ
  pub sent : ℕ → List DataChunk
  pub whole : (sender : ℕ) → of_sender sender (got ++ sent_in items) ≡ numbered sender 0 (sent sender)
  pub unmade : (sender : ℕ) → made ≤ sender → sent sender ≡ []
  pub fit : AreFit fields (sent_in items)
  pub receiver : (pass : ℕ) (v : Known) → get_elem? views pass ≡ some v → FitsReceiver reader made fields got pass v
  pub senders : (pass : ℕ) (v : Known) → get_elem? views pass ≡ some v → FitsSenders seat sent made fields pass v

-- the first pass: it receives, and no sender's pass was made yet
abbrev pub first_known : Known
first_known = record { receives = true; got = []; made = 0; fields = []; sent = [] }

-- a pass that knows nothing
abbrev pub knows_nothing : Known
knows_nothing = record { receives = false; got = []; made = 0; fields = []; sent = [] }

-- the receiving pass once it has made a sender's pass, for fields that are written
abbrev pub after_making : List Field → Known → Known
after_making fields v = record v { made = v.made + 1; fields = fields }

-- the pass of that sender
abbrev pub made_pass : List Field → Known → Known
made_pass fields v = record {
  receives = false;
  got = [];
  made = 0;
  fields = fields;
  sent = record { sender = v.made; chunks = [] } ∷ [];
}

-- a pass that took in another
abbrev pub joined : Known → Known → Known
joined v w = record v { sent = v.sent ++ w.sent }

-- the lists of senders by their numbers, from some number on
abbrev pub AreInOrder : ℕ → List SentList → Type 0
AreInOrder first [] = Unit {0}
AreInOrder first (l ∷ ls) = (l.sender ≡ first) × AreInOrder (first + 1) ls

-- what each sender sent, as lists
abbrev pub lists_of : List SentList → List (List DataChunk)
lists_of ls = map (λ l. l.chunks) ls

-- a pass that is that of all senders
pub record KnowsAll (v : Known) : Type 0 where
  pub receives : v.receives ≡ true
  pub order : AreInOrder 0 v.sent
  pub all : length v.sent ≡ v.made

-- chunks are those of lists, each sender's in its order, whole and once
abbrev pub AreWhole : List (List DataChunk) → List SentChunk → Type 0
AreWhole lists chunks = (sender : ℕ) → of_sender sender chunks ≡ numbered sender 0 (slice_index_or lists sender [])

-- a pass that knows all learns that what was received and what the channel holds is all that was sent
abbrev pub LearnsAll : Known → List Message → Type 0
LearnsAll v items = KnowsAll v → AreWhole (lists_of v.sent) (v.got ++ sent_in items)
