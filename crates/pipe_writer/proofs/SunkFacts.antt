-- What a sink has written once it has ended.
use Rattle.std.proofs.Common.{◌≡◌, ◌∙◌, ◌++◌, ◌∷◌, ◌+◌, ◌≤◌, ℕ, zero, suc, List, [], Option, None, Some, Result, Ok, Err, true, length, sym, refl, ap, subst, arith, is_some, append-nil}
use Rattle.std.specs.Prelude.{OnOk, IfSome, slice_index_or, take}
use Rattle.std.specs.List.{range_with_len}
use Rattle.pipe_columns.specs.declared.data_chunk.DataChunk.{DataChunk}
use Rattle.pipe_columns.specs.declared.schema.Field.{Field}
use Rattle.pipe_writers.specs.Writers.{TellsAfter}
use Rattle.pipe_writers.specs.declared.sink_writer.SinkWriter.{Ghosts}
use Rattle.pipe_writer.specs.Arrivals.{arrived, list_of, numbers_of}
use Rattle.pipe_writer.specs.Carries.{AreWhole}
use Rattle.pipe_writer.specs.Sender.{SenderSeen, WriterChannel}
use Rattle.pipe_writer.specs.Sink.{AreFrom, IsSunk, RuledSeen, lists_in, sent_of}
use Rattle.pipe_writer.specs.Taken.{chunks_of}
use Rattle.pipe_writer.specs.Wrote.{HasEnded, text_of}
use Rattle.pipe_writer.specs.declared.arrivals.Arrival.{Arrival}
use Rattle.pipe_writer.specs.declared.message.SentChunk.{SentChunk}
use Rattle.pipe_writer.specs.declared.ruled_end.RuledEnd.{RuledEnd}
use Rattle.pipe_writer.specs.declared.writing.Writing.{Writing}
use Rattle.pipe_writer.proofs.ArrivedFacts.{arrive-in-order, arrive-whole, arrived-are}

-- what follows of an Ok
on-ok : {T E A B : Type 0} (r : Result T E) → (A → B) → OnOk r A → OnOk r B
on-ok (Ok x) f a = f a
on-ok (Err e) f a = tt

-- an output that tells
tells-so : (t : Option (List ℕ)) (since bytes : List ℕ) → is_some t ≡ true → TellsAfter t since bytes → t ≡ Some (since ++ bytes)
tells-so None since bytes some after = absurd (cc some)
tells-so (Some all) since bytes some after = ap (λ (l : List ℕ). Some l) after

module _ {Writer : Type 0} (kind : Ghosts Writer) (sink : RuledSeen Writer) (senders : List SenderSeen) (w : Writing Writer kind) (end : RuledEnd Writer) (came : List SentChunk)
    (h : HasEnded sink.made_of sink.maintain_order sink.morsels w end came) (whole : AreWhole (lists_in senders) came)
    (sizes : (sender : ℕ) → sent_of senders sender ≡ length (slice_index_or (lists_in senders) sender [])) where
  both : AreWhole (lists_in senders) (h.taken ++ h.dropped)
  both = subst (λ (cs : List SentChunk). AreWhole (lists_in senders) cs) h.all whole

  taken-whole : h.dropped ≡ [] → AreWhole (lists_in senders) h.taken
  taken-whole none = subst (λ (cs : List SentChunk). AreWhole (lists_in senders) cs) (ap (λ (l : List SentChunk). h.taken ++ l) none ∙ append-nil h.taken) both

  same-chunks : chunks_of h.taken ≡ arrived end.arrivals.items (lists_in senders)
  same-chunks = sym (ap (λ (l : List Arrival). arrived l (lists_in senders)) h.arrivals ∙ arrived-are (lists_in senders) h.taken h.dropped both)

  abbrev text_arrived : List ℕ
  text_arrived = text_of kind sink.made_of sink.maintain_order sink.morsels (arrived end.arrivals.items (lists_in senders))

  same-text : text_of kind sink.made_of sink.maintain_order sink.morsels (chunks_of h.taken) ≡ text_arrived
  same-text = ap (λ (cs : List DataChunk). text_of kind sink.made_of sink.maintain_order sink.morsels cs) same-chunks

  first-ones : (sender : ℕ) → (n : ℕ) × (n ≤ sent_of senders sender) × (numbers_of sender end.arrivals.items ≡ range_with_len 0 n)
  first-ones sender =
      let on = arrive-in-order (lists_in senders) h.taken h.dropped both sender in
      (on.0, subst (λ (k : ℕ). on.0 ≤ k) (sym (sizes sender)) on.1, ap (λ (l : List Arrival). numbers_of sender l) h.arrivals ∙ on.2)

  front-told : (since : List ℕ) → kind.told sink.made_of ≡ Some since → (n : ℕ) × (kind.told end.writer ≡ Some (since ++ take n text_arrived))
  front-told since e =
      let front = h.front since e in (
        front.0,
        tells-so (kind.told end.writer) since (take front.0 text_arrived) (h.tells ∙ ap (λ (t : Option (List ℕ)). is_some t) e)
            (subst (λ (t : List ℕ). TellsAfter (kind.told end.writer) since (take front.0 t)) same-text front.1),
      )

  pub sunk : IsSunk kind.told kind.faults (kind.text (kind.format sink.made_of)) sink senders end
  sunk = record {
    all = on-ok end.result (λ none sender. ap (λ (l : List Arrival). numbers_of sender l) h.arrivals ∙ arrive-whole (lists_in senders) h.taken (taken-whole none) sender ∙ ap (λ (k : ℕ). range_with_len 0 k) (sym (sizes sender))) h.whole;
    first = first-ones;
    whole = on-ok end.result (λ text since e. text since e ∙ ap (λ (t : List ℕ). Some (since ++ t)) same-text) h.text_is;
    front = front-told;
    cause = h.cause;
  }

-- how many chunks senders took
pub sizes-are : (first : SenderSeen) (second : Option SenderSeen) → first.sent ≡ length first.list → IfSome second (λ s. s.sent ≡ length s.list)
    → (sender : ℕ) → sent_of (first ∷ list_of second) sender ≡ length (slice_index_or (lists_in (first ∷ list_of second)) sender [])
sizes-are first second one two zero = one
sizes-are first None one two (suc sender) = refl
sizes-are first (Some second) one two (suc zero) = two
sizes-are first (Some second) one two (suc (suc sender)) = refl

-- how many senders there are
pub count-are : (channel : Option WriterChannel) (fields : List Field) (senders first : ℕ) (xs : List SenderSeen) → AreFrom channel fields senders first xs → first + length xs ≡ senders
count-are channel fields senders first [] e = omega (arith, e)
count-are channel fields senders first (x ∷ xs) are =
    let more : (first + 1) + length xs ≡ senders = count-are channel fields senders (first + 1) xs are.3 in
    omega (arith, more)
