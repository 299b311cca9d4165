-- The making and the joining of passes keep the rule of a channel to a writer, and what one learns that has all.
use Rattle.std.proofs.Common.{◌≡◌, ◌≢◌, ◌∙◌, ◌++◌, ◌∷◌, ◌+◌, ◌<◌, ◌≤◌, ◌==◌, ℕ, zero, suc, List, [], true, length, sym, refl, ap, subst, arith, if◌then◌else◌}
use Rattle.std.specs.Prelude.{slice_set, slice_index_or}
use Rattle.std.specs.List.{AllByRecursion}
use Rattle.std.proofs.lemmas.Bool.{eq-eqb, ne_eqb}
use Rattle.crossbeam_channel.specs.Fifo.{Forks, Merges, Learns}
use Rattle.pipe_columns.specs.declared.data_chunk.DataChunk.{DataChunk}
use Rattle.pipe_columns.specs.declared.schema.Field.{Field}
use Rattle.pipe_writer.specs.Carries.{AreInOrder, Carries, FitsReceiver, FitsSender, FitsSenders, LearnsAll, after_making, joined, knows_nothing, lists_of, made_pass}
use Rattle.pipe_writer.specs.Sent.{AreFit, numbered, of_sender, sent_in}
use Rattle.pipe_writer.specs.declared.message.Known.{Known}
use Rattle.pipe_writer.specs.declared.message.Message.{Message}
use Rattle.pipe_writer.specs.declared.message.SentChunk.{SentChunk}
use Rattle.pipe_writer.specs.declared.message.SentList.{SentList}
use Rattle.pipe_writer.proofs.History.{back-none, none-sent}
use Rattle.pipe_writer.proofs.Views.{AtEach, before, changed, each_both, each_then, one_more}
use mathlib.Core.Option.{some}
use native.Mathlib.Decide.{ℕ_discrete}
use lib.ListN.{get_elem?}

-- a seat that is given to another pass
abbrev placed : (ℕ → ℕ) → ℕ → ℕ → ℕ → ℕ
placed seat at to s = if s == at then to else seat s

placed-there : (seat : ℕ → ℕ) (at to s : ℕ) → s ≡ at → placed seat at to s ≡ to
placed-there seat at to s e = rw (eq-eqb s at e) refl

placed-else : (seat : ℕ → ℕ) (at to s : ℕ) → s ≢ at → placed seat at to s ≡ seat s
placed-else seat at to s n = rw (ne_eqb s at n) refl

-- the making of a sender's pass
module _ (pass : ℕ) (v : Known) (fields : List Field) (may : v.receives ≡ true) (same : 0 < v.made → v.fields ≡ fields) (items : List Message) (views : List Known) (h : Carries items views)
    (at : get_elem? views pass ≡ some v) where
  abbrev mine : (pass ≡ h.reader) × (v.got ≡ h.got) × (v.made ≡ h.made) × (0 < h.made → v.fields ≡ h.fields)
  mine = h.receiver pass v at may

  -- once a sender was made, the fields are those
  stays : 0 < h.made → h.fields ≡ fields
  stays made = sym (mine.3 made) ∙ same (subst (λ (k : ℕ). 0 < k) (sym mine.2) made)

  abbrev left : Known
  left = after_making fields v

  abbrev right : Known
  right = made_pass fields v

  abbrev fewer : List Known
  fewer = slice_set views pass left

  abbrev seat : ℕ → ℕ
  seat = placed h.seat h.made (length fewer)

  -- a sender that was made before
  earlier : (j : ℕ) (u w : Known) → u.sent ≡ w.sent → (0 < h.made → w.fields ≡ fields) → FitsSenders h.seat h.sent h.made h.fields j u → FitsSenders seat h.sent (h.made + 1) fields j w
  earlier j u w lists are all =
      subst (λ (ls : List SentList). AllByRecursion (FitsSender seat h.sent (h.made + 1) fields j w) ls) lists
      (each_then (FitsSender h.seat h.sent h.made h.fields j u) (FitsSender seat h.sent (h.made + 1) fields j w)
      (λ l fits. let made = fits.is_made in record {
        seat_is = placed-else h.seat h.made (length fewer) l.sender (λ e. omega (arith, made, e)) ∙ fits.seat_is;
        sent_is = fits.sent_is;
        is_made = omega (arith, made);
        fields_are = are (omega (arith, made));
      }) u.sent all)

  -- a sender of another pass, which knows the same fields
  earlier-there : (j : ℕ) (u : Known) → FitsSenders h.seat h.sent h.made h.fields j u → FitsSenders seat h.sent (h.made + 1) fields j u
  earlier-there j u all =
      each_then (FitsSender h.seat h.sent h.made h.fields j u) (FitsSender seat h.sent (h.made + 1) fields j u)
      (λ l fits. let made = fits.is_made in record {
        seat_is = placed-else h.seat h.made (length fewer) l.sender (λ e. omega (arith, made, e)) ∙ fits.seat_is;
        sent_is = fits.sent_is;
        is_made = omega (arith, made);
        fields_are = fits.fields_are ∙ stays (omega (arith, made));
      }) u.sent all

  -- the new one
  new : FitsSender seat h.sent (h.made + 1) fields (length fewer) right (record { sender = v.made; chunks = [] })
  new =
      let made = mine.2 in
      record {
        seat_is = placed-there h.seat h.made (length fewer) v.made made;
        sent_is = sym (h.unmade v.made (omega (arith, made)));
        is_made = omega (arith, made);
        fields_are = refl;
      }

  -- what the channel holds fits: where no sender was made, it holds no chunk
  fits-still : Dec (h.made ≡ 0) → AreFit fields (sent_in items)
  fits-still (yes none) =
      let nothing : sent_in items ≡ [] = back-none h.got (sent_in items) (none-sent (h.got ++ sent_in items) (λ s. h.whole s ∙ ap (λ (cs : List DataChunk). numbered s 0 cs) (h.unmade s (omega (arith, none))))) in
      subst (λ (cs : List SentChunk). AreFit fields cs) (sym nothing) tt
  fits-still (no one) = subst (λ (fs : List Field). AreFit fs (sent_in items)) (stays (omega (arith, one))) h.fit

  pub made-one : Carries items (fewer ++ right ∷ [])
  made-one = record {
    reader = h.reader;
    made = h.made + 1;
    fields = fields;
    got = h.got;
    seat = seat;
    sent = h.sent;
    whole = h.whole;
    unmade = λ s le. h.unmade s (omega (arith, le));
    fit = fits-still (ℕ_discrete h.made 0);
    receiver = one_more (FitsReceiver h.reader (h.made + 1) fields h.got) fewer right
        (changed (FitsReceiver h.reader (h.made + 1) fields h.got) views pass left (λ _. (mine.0, mine.1, ap (λ (k : ℕ). k + 1) mine.2, λ _. refl))
        (λ j u other there receiving. absurd (other ((h.receiver j u there receiving).0 ∙ sym mine.0)))) (λ e. absurd (cc e));
    senders = one_more (FitsSenders seat h.sent (h.made + 1) fields) fewer right
        (changed (FitsSenders seat h.sent (h.made + 1) fields) views pass left (earlier pass v left refl (λ _. refl) (h.senders pass v at))
        (λ j u other there. earlier-there j u (h.senders j u there))) (new, tt);
  }

pub makes : (pass : ℕ) (v : Known) (fields : List Field) → v.receives ≡ true → (0 < v.made → v.fields ≡ fields) → Forks Carries pass v (after_making fields v) (made_pass fields v)
makes pass v fields may same items views h at = made-one pass v fields may same items views h at

-- the joining of passes
module _ (pass : ℕ) (v : Known) (other : ℕ) (w : Known) (may : v.receives ≡ true) (items : List Message) (views : List Known) (h : Carries items views)
    (at : get_elem? views pass ≡ some v) (two : ¬ (other ≡ pass)) (there : get_elem? (slice_set views pass (joined v w)) other ≡ some w) where
  abbrev own : (pass ≡ h.reader) × (v.got ≡ h.got) × (v.made ≡ h.made) × (0 < h.made → v.fields ≡ h.fields)
  own = h.receiver pass v at may

  abbrev both : Known
  both = joined v w

  -- who was seated at the other pass is at this one now
  abbrev moved : ℕ → ℕ
  moved s = placed (λ k. h.seat s) other pass (h.seat s)

  moved-there : (s : ℕ) → h.seat s ≡ other → moved s ≡ pass
  moved-there s e = placed-there (λ k. h.seat s) other pass (h.seat s) e

  moved-else : (s j : ℕ) → h.seat s ≡ j → j ≢ other → moved s ≡ j
  moved-else s j e n = placed-else (λ k. h.seat s) other pass (h.seat s) (λ q. n (sym e ∙ q)) ∙ e

  -- senders of a pass stay those of a pass
  stay : (j k : ℕ) (u x : Known) → (0 < h.made → x.fields ≡ h.fields) → ((s : ℕ) → h.seat s ≡ j → moved s ≡ k) → FitsSenders h.seat h.sent h.made h.fields j u
      → AllByRecursion (FitsSender moved h.sent h.made h.fields k x) u.sent
  stay j k u x are seats all =
      each_then (FitsSender h.seat h.sent h.made h.fields j u) (FitsSender moved h.sent h.made h.fields k x)
      (λ l fits. let made = fits.is_made in record {
        seat_is = seats l.sender fits.seat_is;
        sent_is = fits.sent_is;
        is_made = made;
        fields_are = are (omega (arith, made));
      }) u.sent all

  there-stay : (j : ℕ) (u : Known) → j ≢ other → FitsSenders h.seat h.sent h.made h.fields j u → FitsSenders moved h.sent h.made h.fields j u
  there-stay j u n all =
      each_then (FitsSender h.seat h.sent h.made h.fields j u) (FitsSender moved h.sent h.made h.fields j u)
      (λ l fits. record {
        seat_is = moved-else l.sender j fits.seat_is n;
        sent_is = fits.sent_is;
        is_made = fits.is_made;
        fields_are = fits.fields_are;
      }) u.sent all

  both-stay : FitsSenders moved h.sent h.made h.fields pass both
  both-stay = each_both (FitsSender moved h.sent h.made h.fields pass both) v.sent w.sent
      (stay pass pass v both own.3 (λ s e. moved-else s pass e (λ q. two (sym q))) (h.senders pass v at))
      (stay other pass w both own.3 moved-there (h.senders other w (before views pass other both w two there)))

  pub joined-both : Carries items (slice_set (slice_set views pass both) other knows_nothing)
  joined-both =
      let Reads : ℕ → Known → Type 0 = λ j u. FitsReceiver h.reader h.made h.fields h.got j u in
      let Sits : ℕ → Known → Type 0 = λ j u. j ≢ other → FitsSenders moved h.sent h.made h.fields j u in
      let reads : AtEach Reads (slice_set views pass both) = changed Reads views pass both (λ receiving. h.receiver pass v at may) (λ j u _ e. h.receiver j u e) in
      let sits : AtEach Sits (slice_set views pass both) = changed Sits views pass both (λ _. both-stay) (λ j u _ e apart. there-stay j u apart (h.senders j u e)) in
      record {
        reader = h.reader;
        made = h.made;
        fields = h.fields;
        got = h.got;
        seat = moved;
        sent = h.sent;
        whole = h.whole;
        unmade = h.unmade;
        fit = h.fit;
        receiver = changed Reads (slice_set views pass both) other knows_nothing (λ e. absurd (cc e)) (λ j u _ e. reads j u e);
        senders = changed (FitsSenders moved h.sent h.made h.fields) (slice_set views pass both) other knows_nothing tt (λ j u apart e. sits j u e apart);
      }

pub joins : (pass : ℕ) (v : Known) (other : ℕ) (w : Known) → v.receives ≡ true → Merges Carries pass v other w (joined v w) knows_nothing
joins pass v other w may items views h at two there = joined-both pass v other w may items views h at two there

-- ---- what one learns that has all passes

-- the list at each place is that of the sender of its number
at-place : (sent : ℕ → List DataChunk) (first : ℕ) (ls : List SentList) → AreInOrder first ls → AllByRecursion (λ l. l.chunks ≡ sent l.sender) ls
    → ((s : ℕ) → first + length ls ≤ s → sent s ≡ []) → (j : ℕ) → slice_index_or (lists_of ls) j [] ≡ sent (first + j)
at-place sent first [] order lists none j = sym (none (first + j) (omega arith))
at-place sent first (l ∷ ls) order lists none zero =
    let e : l.sender ≡ first + 0 = order.0 ∙ (let same : first ≡ first + 0 = omega arith in same) in
    lists.0 ∙ ap sent e
at-place sent first (l ∷ ls) order lists none (suc j) =
    let e : (first + 1) + j ≡ first + suc j = omega arith in
    at-place sent (first + 1) ls order.1 lists.1 (λ s le. none s (omega (arith, le))) j ∙ ap sent e

pub learns : (pass : ℕ) (v : Known) → Learns Carries pass v (LearnsAll v)
learns pass v items views h at all =
    let own = h.receiver pass v at all.receives in
    let lists : AllByRecursion (λ l. l.chunks ≡ h.sent l.sender) v.sent = each_then _ _ (λ l fits. fits.sent_is) v.sent (h.senders pass v at) in
    let same = own.2 in
    let size = all.all in
    λ s.
    let place : 0 + s ≡ s = omega arith in
    ap (λ (cs : List SentChunk). of_sender s (cs ++ sent_in items)) own.1
    ∙ h.whole s
    ∙ ap (λ (cs : List DataChunk). numbered s 0 cs) (sym (at-place h.sent 0 v.sent all.order lists (λ k le. h.unmade k (omega (arith, le, same, size))) s ∙ ap h.sent place))
