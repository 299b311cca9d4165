-- What a writer has written, chunk by chunk.
use Rattle.std.proofs.Common.{◌≡◌, ◌∙◌, ◌++◌, ◌∷◌, ℕ, List, [], Bool, true, false, Option, None, Some, Result, Ok, Err, sym, refl, ap, subst, append_assoc, is_some}
use Rattle.std.specs.Prelude.{OnOk, IsErrOf}
use Rattle.pipe_columns.specs.declared.data_chunk.DataChunk.{DataChunk}
use Rattle.pipe_files_sink.specs.Core.{HasTaken}
use Rattle.pipe_files_sink.specs.Telling.{TellsSince}
use Rattle.pipe_files_sink.specs.declared.guarded_core.GuardedCore.{GuardedCore}
use Rattle.pipe_writers.specs.WriteOrder.{rows_of_chunks, write_order}
use Rattle.pipe_writers.specs.Writers.{TellsAfter, TellsFront}
use Rattle.pipe_writers.specs.declared.sink_writer.SinkWriter.{Ghosts}
use Rattle.pipe_writers.specs.declared.write_error.WriteError.{WriteError}
use Rattle.pipe_writers.specs.declared.write_error.WriteError.TheVariants as write_error
use Rattle.pipe_writer.specs.Taken.{arrival_of, arrivals_of, chunks_of}
use Rattle.pipe_writer.specs.Wrote.{HasEnded, Wrote, text_of}
use Rattle.pipe_writer.specs.declared.message.SentChunk.{SentChunk}
use Rattle.pipe_writer.specs.declared.ruled_end.RuledEnd.{RuledEnd}
use Rattle.pipe_writer.specs.declared.writing.Writing.{Writing}
use Rattle.pipe_files_sink.proofs.TellsFacts.{tells_fresh}

true-or-false : (b : Bool) {P : Type 0} → b ≡ true → b ≡ false → P
true-or-false b t f = absurd (cc (t, f))

-- one chunk more
chunks-more : (sent : List SentChunk) (c : SentChunk) → chunks_of (sent ++ c ∷ []) ≡ chunks_of sent ++ c.chunk ∷ []
chunks-more [] c = refl
chunks-more (x ∷ sent) c = ap (λ (l : List DataChunk). x.chunk ∷ l) (chunks-more sent c)

arrivals-more : (sent : List SentChunk) (c : SentChunk) → arrivals_of (sent ++ c ∷ []) ≡ arrivals_of sent ++ arrival_of c ∷ []
arrivals-more [] c = refl
arrivals-more (x ∷ sent) c = ap (λ l. arrival_of x ∷ l) (arrivals-more sent c)

all-behind : (came taken dropped : List SentChunk) (c : SentChunk) → came ≡ taken ++ dropped → came ++ c ∷ [] ≡ taken ++ (dropped ++ c ∷ [])
all-behind came taken dropped c all = ap (λ l. l ++ c ∷ []) all ∙ append_assoc taken dropped (c ∷ [])

all-taken : (came taken dropped : List SentChunk) (c : SentChunk) → came ≡ taken ++ dropped → dropped ≡ [] → came ++ c ∷ [] ≡ (taken ++ c ∷ []) ++ []
all-taken came taken dropped c all none = rw (append-none (taken ++ c ∷ [])) (ap (λ l. l ++ c ∷ []) (all ∙ ap (λ l. taken ++ l) none ∙ append-none taken))
  where
    append-none : (xs : List SentChunk) → xs ++ [] ≡ xs
    append-none [] = refl
    append-none (x ∷ xs) = ap (λ l. x ∷ l) (append-none xs)

module _ {Writer : Type 0} (kind : Ghosts Writer) (made : Writer) (maintain : Bool) (morsels : ℕ) where
  abbrev Wrote' : Writing Writer kind → List SentChunk → Type 0
  Wrote' w came = Wrote made maintain morsels w came

  -- before anything came
  pub wrote-nothing : (w : Writing Writer kind) → w.core.core.writer ≡ made → w.core.ended ≡ false → w.core.fault ≡ None → w.arrivals.items ≡ []
      → w.core.core.maintain_order ≡ maintain → w.core.core.morsels ≡ morsels
      → ((since : List ℕ) → kind.told made ≡ Some since → HasTaken (kind.stands made) w.core.core [] since) → Wrote' w []
  wrote-nothing w writer going_on none arrivals order size starts = record {
    taken = [];
    dropped = [];
    all = refl;
    arrivals = arrivals;
    whole = λ _ _. refl;
    stood = λ _ since e. subst (λ (x : Writer). HasTaken (kind.stands x) w.core.core [] since) (sym writer) (starts since e);
    front = λ e. true-or-false w.core.ended e going_on;
    refused = λ e. true-or-false w.core.ended e going_on;
    same_format = ap kind.format writer;
    same_order = order;
    same_size = size;
    tells = ap (λ x. is_some (kind.told x)) writer;
    cause = tells_fresh _ _ _ (ap kind.faults (sym writer)) none;
  }

  module _ (w : Writing Writer kind) (came : List SentChunk) (c : SentChunk) (h : Wrote' w came) where
    -- a chunk that is dropped
    pub wrote-dropped : (v : Writing Writer kind) → v.core ≡ w.core → v.arrivals.items ≡ w.arrivals.items → (v.core.ended ≡ false → v.wanting ≡ false → ⊥) → Wrote' v (came ++ c ∷ [])
    wrote-dropped v core arrivals over = record {
      taken = h.taken;
      dropped = h.dropped ++ c ∷ [];
      all = all-behind came h.taken h.dropped c h.all;
      arrivals = arrivals ∙ h.arrivals;
      whole = λ going_on not. absurd (over going_on not);
      stood = rw core h.stood;
      front = rw core h.front;
      refused = rw core h.refused;
      same_format = rw core h.same_format;
      same_order = rw core h.same_order;
      same_size = rw core h.same_size;
      tells = rw core h.tells;
      cause = rw core h.cause;
    }

    -- a chunk that the core takes
    module _ (v : Writing Writer kind) (going_on : w.core.ended ≡ false) (going : w.wanting ≡ false) (arrivals : v.arrivals.items ≡ w.arrivals.items ++ arrival_of c ∷ [])
        (format_is : kind.format v.core.core.writer ≡ kind.format w.core.core.writer)
        (order : v.core.core.maintain_order ≡ w.core.core.maintain_order) (size : v.core.core.morsels ≡ w.core.core.morsels)
        (tells : is_some (kind.told v.core.core.writer) ≡ is_some (kind.told w.core.core.writer))
        (taken : v.core.ended ≡ false → (chunks : List DataChunk) → (since : List ℕ) → HasTaken (kind.stands w.core.core.writer) w.core.core chunks since
        → HasTaken (kind.stands v.core.core.writer) v.core.core (chunks ++ c.chunk ∷ []) since)
        (front : (chunks : List DataChunk) → (since : List ℕ) → HasTaken (kind.stands w.core.core.writer) w.core.core chunks since
        → TellsFront (kind.told v.core.core.writer) since (kind.text (kind.format w.core.core.writer) (rows_of_chunks (write_order (chunks ++ c.chunk ∷ []) w.core.core.morsels w.core.core.maintain_order))))
        (refused : v.core.ended ≡ true → is_some v.core.fault ≡ true)
        (cause : (n : ℕ) → TellsSince n (kind.faults w.core.core.writer) w.core.fault → TellsSince n (kind.faults v.core.core.writer) v.core.fault) where
      text-alike : kind.text (kind.format w.core.core.writer) (rows_of_chunks (write_order (chunks_of h.taken ++ c.chunk ∷ []) w.core.core.morsels w.core.core.maintain_order))
          ≡ text_of kind made maintain morsels (chunks_of (h.taken ++ c ∷ []))
      text-alike i = kind.text (h.same_format i) (rows_of_chunks (write_order (sym (chunks-more h.taken c) i) (h.same_size i) (h.same_order i)))

      pub wrote-taken : Wrote' v (came ++ c ∷ [])
      wrote-taken = record {
        taken = h.taken ++ c ∷ [];
        dropped = [];
        all = all-taken came h.taken h.dropped c h.all (h.whole going_on going);
        arrivals = arrivals ∙ ap (λ l. l ++ arrival_of c ∷ []) h.arrivals ∙ sym (arrivals-more h.taken c);
        whole = λ _ _. refl;
        stood = λ still since e. subst (λ (cs : List DataChunk). HasTaken (kind.stands v.core.core.writer) v.core.core cs since) (sym (chunks-more h.taken c))
            (taken still (chunks_of h.taken) since (h.stood going_on since e));
        front = λ _ since e. subst (λ (t : List ℕ). TellsFront (kind.told v.core.core.writer) since t) text-alike (front (chunks_of h.taken) since (h.stood going_on since e));
        refused = refused;
        same_format = format_is ∙ h.same_format;
        same_order = order ∙ h.same_order;
        same_size = size ∙ h.same_size;
        tells = tells ∙ h.tells;
        cause = cause (kind.faults made) h.cause;
      }

  -- a writing that has ended
  module _ (w : Writing Writer kind) (came : List SentChunk) (h : Wrote' w came) (core : GuardedCore Writer kind) (end : RuledEnd Writer)
      (arrivals : end.arrivals.items ≡ w.arrivals.items) (writer : end.writer ≡ core.core.writer)
      (already : w.core.ended ≡ true → core ≡ w.core)
      (whole : w.core.ended ≡ false → core.fault ≡ None → (chunks : List DataChunk) → (since : List ℕ) → HasTaken (kind.stands w.core.core.writer) w.core.core chunks since
      → TellsAfter (kind.told core.core.writer) since (kind.text (kind.format w.core.core.writer) (rows_of_chunks (write_order chunks w.core.core.morsels w.core.core.maintain_order))))
      (front : w.core.ended ≡ false → (chunks : List DataChunk) → (since : List ℕ) → HasTaken (kind.stands w.core.core.writer) w.core.core chunks since
      → TellsFront (kind.told core.core.writer) since (kind.text (kind.format w.core.core.writer) (rows_of_chunks (write_order chunks w.core.core.morsels w.core.core.maintain_order))))
      (tells : is_some (kind.told core.core.writer) ≡ is_some (kind.told w.core.core.writer))
      (cause : (n : ℕ) → TellsSince n (kind.faults w.core.core.writer) w.core.fault → TellsSince n (kind.faults core.core.writer) core.fault)
      (ok : OnOk end.result ((w.wanting ≡ false) × (core.fault ≡ None)))
      (output : IsErrOf end.result write_error.Output → core.fault ≡ Some write_error.Output) where
    text-same : kind.text (kind.format w.core.core.writer) (rows_of_chunks (write_order (chunks_of h.taken) w.core.core.morsels w.core.core.maintain_order))
        ≡ text_of kind made maintain morsels (chunks_of h.taken)
    text-same i = kind.text (h.same_format i) (rows_of_chunks (write_order (chunks_of h.taken) (h.same_size i) (h.same_order i)))

    -- where memory wasn't wanting and no fault came, the core had not ended
    open-before : core.fault ≡ None → w.core.ended ≡ false
    open-before none = by-test w.core.ended refl
      where
        by-test : (b : Bool) → w.core.ended ≡ b → w.core.ended ≡ false
        by-test false e = e
        by-test true e = absurd (cc (h.refused e, ap (λ x. x.fault) (already e), none))

    tells-all : (t : Option (List ℕ)) (since bytes : List ℕ) → is_some t ≡ true → TellsAfter t since bytes → t ≡ Some (since ++ bytes)
    tells-all None since bytes some after = absurd (cc some)
    tells-all (Some all) since bytes some after = ap (λ (l : List ℕ). Some l) after

    still-tells : (since : List ℕ) → kind.told made ≡ Some since → is_some (kind.told core.core.writer) ≡ true
    still-tells since e = tells ∙ h.tells ∙ ap (λ t. is_some t) e

    front-of : (b : Bool) → w.core.ended ≡ b → (since : List ℕ) → kind.told made ≡ Some since → TellsFront (kind.told core.core.writer) since (text_of kind made maintain morsels (chunks_of h.taken))
    front-of false e since is = subst (λ (t : List ℕ). TellsFront (kind.told core.core.writer) since t) text-same (front e (chunks_of h.taken) since (h.stood e since is))
    front-of true e since is = rw (already e) (h.front e since is)

    when-ok : (r : Result (Unit {0}) WriteError) → OnOk r ((w.wanting ≡ false) × (core.fault ≡ None)) → OnOk r (h.dropped ≡ [])
    when-ok (Ok x) k = h.whole (open-before k.1) k.0
    when-ok (Err e) k = tt

    when-ok-text : (r : Result (Unit {0}) WriteError) → OnOk r ((w.wanting ≡ false) × (core.fault ≡ None))
        → OnOk r ((since : List ℕ) → kind.told made ≡ Some since → kind.told core.core.writer ≡ Some (since ++ text_of kind made maintain morsels (chunks_of h.taken)))
    when-ok-text (Ok x) k = λ since e. tells-all (kind.told core.core.writer) since _ (still-tells since e)
        (subst (λ (t : List ℕ). TellsAfter (kind.told core.core.writer) since t) text-same
        (whole (open-before k.1) k.1 (chunks_of h.taken) since (h.stood (open-before k.1) since e)))
    when-ok-text (Err x) k = tt

    pub ended : HasEnded made maintain morsels w end came
    ended = record {
      taken = h.taken;
      dropped = h.dropped;
      all = h.all;
      arrivals = arrivals ∙ h.arrivals;
      whole = when-ok end.result ok;
      text_is = rw writer (when-ok-text end.result ok);
      front = rw writer (λ since e. front-of w.core.ended refl since e);
      tells = rw writer (tells ∙ h.tells);
      cause = λ failed. rw writer ((cause (kind.faults made) h.cause).cause (output failed));
    }
