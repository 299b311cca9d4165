-- Each step at a channel to a writer keeps its rule.
use Rattle.std.proofs.Common.{◌≡◌, ◌≢◌, ◌∙◌, ◌++◌, ◌∷◌, ◌<◌, ℕ, List, [], true, length, map, sym, refl, ap, subst, arith, append_assoc, append-nil}
use Rattle.std.specs.Prelude.{slice_set}
use Rattle.std.specs.List.{AllByRecursion}
use Rattle.std.proofs.lemmas.Grind.{flat_map-append}
use Rattle.crossbeam_channel.specs.Fifo.{Pushes, Pops}
use Rattle.pipe_columns.specs.declared.data_chunk.DataChunk.{DataChunk}
use Rattle.pipe_columns.specs.declared.schema.Field.{Field}
use Rattle.pipe_files_sink.specs.Joined.{IsWritable}
use Rattle.pipe_writer.specs.Carries.{Carries, FitsReceiver, FitsSender, FitsSenders, first_known}
use Rattle.pipe_writer.specs.Sent.{AreFit, MaySend, after_receive, after_send, chunk_in, longer_by, numbered, of_sender, sent_in}
use Rattle.pipe_writer.specs.declared.message.Known.{Known}
use Rattle.pipe_writer.specs.declared.message.Message.{Message}
use Rattle.pipe_writer.specs.declared.message.Message.TheVariants as message
use Rattle.pipe_writer.specs.declared.message.SentChunk.{SentChunk}
use Rattle.pipe_writer.specs.declared.message.SentList.{SentList}
use Rattle.pipe_writer.proofs.History.{with_one, with_one-else, with_one-here, whole-more}
use Rattle.pipe_writer.proofs.Views.{changed, each_apart, each_both, each_then, only}
use mathlib.Core.Option.{some}
use lib.ListN.{get_elem?}

-- the channel at first
pub begins : Carries [] (first_known ∷ [])
begins =
    let fresh : (pass : ℕ) (v : Known) → get_elem? (first_known ∷ []) pass ≡ some v → (pass ≡ 0) × (first_known ≡ v) = (λ pass v at. let is = only first_known v pass at in (is.0, is.1)) in
    record {
      reader = 0;
      made = 0;
      fields = [];
      got = [];
      seat = λ _. 0;
      sent = λ _. [];
      whole = λ _. refl;
      unmade = λ _ _. refl;
      fit = tt;
      receiver = λ pass v at. let is = fresh pass v at in subst (λ (u : Known). FitsReceiver 0 0 [] [] pass u) is.1 (λ _. (is.0, refl, refl, λ _. refl));
      senders = λ pass v at. let is = fresh pass v at in subst (λ (u : Known). FitsSenders (λ _. 0) (λ _. []) 0 [] pass u) is.1 tt;
    }

-- what a pass may do, and what the rule says before it
module _ (items : List Message) (views : List Known) (pass : ℕ) (v : Known) (h : Carries items views) (at : get_elem? views pass ≡ some v) where
  -- a sender's chunk
  module _ (c : SentChunk) (may : MaySend v (message.Chunk c)) where
    abbrev list : SentList
    list = record { sender = c.sender; chunks = may.0 }

    own : FitsSender h.seat h.sent h.made h.fields pass v list
    own = (subst (λ (ls : List SentList). AllByRecursion (FitsSender h.seat h.sent h.made h.fields pass v) ls) may.1 (h.senders pass v at)).0

    abbrev sent : ℕ → List DataChunk
    sent = with_one h.sent c

    abbrev sender : Known
    sender = after_send v (message.Chunk c)

    abbrev longer : List Message
    longer = items ++ message.Chunk c ∷ []

    in-longer : sent_in longer ≡ sent_in items ++ c ∷ []
    in-longer = flat_map-append chunk_in items (message.Chunk c ∷ [])

    whole-then : (s : ℕ) → of_sender s (h.got ++ sent_in longer) ≡ numbered s 0 (sent s)
    whole-then s =
        ap (λ (cs : List SentChunk). of_sender s cs) (ap (λ (cs : List SentChunk). h.got ++ cs) in-longer ∙ sym (append_assoc h.got (sent_in items) (c ∷ [])))
        ∙ whole-more h.sent (h.got ++ sent_in items) c h.whole (may.2 ∙ ap (λ (cs : List DataChunk). length cs) own.sent_is) s

    own-then : FitsSenders h.seat sent h.made h.fields pass sender
    own-then =
        let one : FitsSender h.seat sent h.made h.fields pass sender (longer_by c.chunk list) = record {
          seat_is = own.seat_is;
          sent_is = ap (λ (cs : List DataChunk). cs ++ c.chunk ∷ []) own.sent_is ∙ sym (with_one-here h.sent c c.sender refl);
          is_made = own.is_made;
          fields_are = own.fields_are;
        } in
        subst (λ (ls : List SentList). AllByRecursion (FitsSender h.seat sent h.made h.fields pass sender) (map (longer_by c.chunk) ls)) (sym may.1) (one, tt)

    other-then : (j : ℕ) (u : Known) → j ≢ pass → get_elem? views j ≡ some u → FitsSenders h.seat sent h.made h.fields j u
    other-then j u other there =
        each_then (FitsSender h.seat h.sent h.made h.fields j u) (FitsSender h.seat sent h.made h.fields j u)
        (λ l fits. record {
          seat_is = fits.seat_is;
          sent_is = fits.sent_is ∙ sym (with_one-else h.sent c l.sender (λ e. other (sym fits.seat_is ∙ ap h.seat e ∙ own.seat_is)));
          is_made = fits.is_made;
          fields_are = fits.fields_are;
        }) u.sent (h.senders j u there)

    chunk-sent : Carries longer (slice_set views pass sender)
    chunk-sent = record {
      reader = h.reader;
      made = h.made;
      fields = h.fields;
      got = h.got;
      seat = h.seat;
      sent = sent;
      whole = whole-then;
      unmade = λ s le. with_one-else h.sent c s (λ e. let made = own.is_made in omega (arith, made, le, e)) ∙ h.unmade s le;
      fit = subst (λ (cs : List SentChunk). AreFit h.fields cs) (sym in-longer)
          (each_both _ (sent_in items) (c ∷ []) h.fit (subst (λ (fs : List Field). IsWritable fs c.chunk.frame) own.fields_are may.3, tt));
      receiver = changed (FitsReceiver h.reader h.made h.fields h.got) views pass sender (h.receiver pass v at) (λ j u _ there. h.receiver j u there);
      senders = changed (FitsSenders h.seat sent h.made h.fields) views pass sender own-then other-then;
    }

  -- the end
  end-sent : Carries (items ++ message.End ∷ []) (slice_set views pass v)
  end-sent =
      let same : sent_in (items ++ message.End ∷ []) ≡ sent_in items = flat_map-append chunk_in items (message.End ∷ []) ∙ append-nil (sent_in items) in
      record {
        reader = h.reader;
        made = h.made;
        fields = h.fields;
        got = h.got;
        seat = h.seat;
        sent = h.sent;
        whole = λ s. ap (λ (cs : List SentChunk). of_sender s (h.got ++ cs)) same ∙ h.whole s;
        unmade = h.unmade;
        fit = subst (λ (cs : List SentChunk). AreFit h.fields cs) (sym same) h.fit;
        receiver = changed (FitsReceiver h.reader h.made h.fields h.got) views pass v (h.receiver pass v at) (λ j u _ there. h.receiver j u there);
        senders = changed (FitsSenders h.seat h.sent h.made h.fields) views pass v (h.senders pass v at) (λ j u _ there. h.senders j u there);
      }

-- a sender's send
pub sends : (n pass : ℕ) (v : Known) (m : Message) → MaySend v m → Pushes Carries n pass v m (λ w. w ≡ after_send v m)
sends n pass v (message.Chunk c) may items views _ h at = (after_send v (message.Chunk c), chunk-sent items views pass v h at c may, refl)
sends n pass v message.End may items views _ h at = (v, end-sent items views pass v h at, refl)

-- a receive
pub receives : (pass : ℕ) (v : Known) → v.receives ≡ true → 0 < v.made → Pops Carries pass v (λ m w. (w ≡ after_receive v m) × AreFit v.fields (chunk_in m))
receives pass v may made m items views h at =
    let w : Known = after_receive v m in
    let mine = h.receiver pass v at may in
    let got : List SentChunk = h.got ++ chunk_in m in
    let fields : v.fields ≡ h.fields = mine.3 (subst (λ (k : ℕ). 0 < k) mine.2 made) in
    let fit = each_apart (λ (c : SentChunk). IsWritable h.fields c.chunk.frame) (chunk_in m) (sent_in items) h.fit in (
      w,
      record {
        reader = h.reader;
        made = h.made;
        fields = h.fields;
        got = got;
        seat = h.seat;
        sent = h.sent;
        whole = λ s. ap (λ (cs : List SentChunk). of_sender s cs) (append_assoc h.got (chunk_in m) (sent_in items)) ∙ h.whole s;
        unmade = h.unmade;
        fit = fit.1;
        receiver = changed (FitsReceiver h.reader h.made h.fields got) views pass w
            (λ _. (mine.0, ap (λ (cs : List SentChunk). cs ++ chunk_in m) mine.1, mine.2, mine.3))
            (λ j u other there receiving. absurd (other ((h.receiver j u there receiving).0 ∙ sym mine.0)));
        senders = changed (FitsSenders h.seat h.sent h.made h.fields) views pass w (each_then _ _ (λ l fits. record { seat_is = fits.seat_is; sent_is = fits.sent_is; is_made = fits.is_made; fields_are = fits.fields_are }) v.sent (h.senders pass v at)) (λ j u _ there. h.senders j u there);
      },
      (refl, subst (λ (fs : List Field). AreFit fs (chunk_in m)) (sym fields) fit.0),
    )
