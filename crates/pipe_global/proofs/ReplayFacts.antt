-- A partition goes on standing for the replay of its journal, event by event.
use Rattle.std.proofs.Common.{◌≡◌, ◌≢◌, ◌∙◌, ◌+◌, ◌-◌, ◌<◌, ◌^◌, ◌==◌, ℕ, Bool, List, [], ◌∷◌, ◌++◌, length, sym, ap, subst, arith, length-append, Some, slice_get, ⊎_elim}
use Rattle.std.specs.Prelude.{slice_index_or}
use Rattle.std.proofs.lemmas.Bool.{cases_eq, eq-eqb, ne_eqb}
use Rattle.std.proofs.lemmas.List.{append-nil, get_or-set_other, get_or-set_same, length-set}
use Rattle.pipe_plan.specs.declared.event.PartitionEvent.{PartitionEvent}
use Rattle.pipe_plan.specs.Journals.{IsWithin}
use Rattle.pipe_plan.specs.Plan.{plan}
use Rattle.pipe_plan.specs.Replay.{after_event, events_by, replay, Replayed, worker_of}
use Rattle.pipe_plan.specs.Run.{Run}
use Rattle.pipe_plan.proofs.Counting.{within-next}
use Rattle.pipe_plan.proofs.Filtering.{filter-no, filter-yes}
use Rattle.pipe_plan.proofs.Replaying.{events_by-push, replay-push}
use Rattle.pipe_global.specs.Partition.{IsReplayed, PartitionSeen, StandsFor}
use Rattle.pipe_global.specs.Shares.{one_more_at}
use Rattle.pipe_global.specs.Refused.{IsKeptBut}
use Rattle.pipe_global.proofs.StandFacts.{stands-kept}

-- ---- books

-- the worker whose event it is has one more
book-own : (w : ℕ) (journal : List PartitionEvent) (e : PartitionEvent) → worker_of e ≡ w → length (events_by w (journal ++ e ∷ [])) ≡ length (events_by w journal) + 1
book-own w journal e mine =
    ap (λ (l : List PartitionEvent). length l) (events_by-push w journal e ∙ ap (λ (l : List PartitionEvent). events_by w journal ++ l) (filter-yes (λ e. worker_of e == w) e [] (eq-eqb (worker_of e) w mine)))
    ∙ length-append (events_by w journal) (e ∷ [])

-- the others have as many as before
book-other : (w : ℕ) (journal : List PartitionEvent) (e : PartitionEvent) → worker_of e ≢ w → length (events_by w (journal ++ e ∷ [])) ≡ length (events_by w journal)
book-other w journal e other =
    ap (λ (l : List PartitionEvent). length l) (events_by-push w journal e ∙ ap (λ (l : List PartitionEvent). events_by w journal ++ l) (filter-no (λ e. worker_of e == w) e [] (ne_eqb (worker_of e) w other)) ∙ append-nil (events_by w journal))

-- the book of each worker, with one event more
book-more : (book : List ℕ) (journal : List PartitionEvent) (e : PartitionEvent) (workers : ℕ) → length book ≡ workers → worker_of e < workers
    → ((w : ℕ) → w < workers → slice_index_or book w 0 ≡ length (events_by w journal))
    → (w : ℕ) → w < workers → slice_index_or (one_more_at book (worker_of e)) w 0 ≡ length (events_by w (journal ++ e ∷ []))
book-more book journal e workers long lt is w below = ⊎_elim
    (λ mine.
    let at : slice_index_or book w 0 + 1 ≡ length (events_by w (journal ++ e ∷ [])) = omega (arith, is w below, book-own w journal e mine) in
    let set : slice_index_or (one_more_at book w) w 0 ≡ slice_index_or book w 0 + 1 = get_or-set_same book w (slice_index_or book w 0 + 1) 0 (omega (arith, long, below)) in
    subst (λ v. slice_index_or (one_more_at book v) w 0 ≡ length (events_by w (journal ++ e ∷ []))) (sym mine) (set ∙ at))
    (λ other.
    get_or-set_other book (worker_of e) w (slice_index_or book (worker_of e) 0 + 1) 0 (λ same. other (sym same)) ∙ is w below ∙ sym (book-other w journal e other))
    (cases_eq (worker_of e) w)

-- ---- one event more

-- what an event leaves as it was, and what it adds
pub record GoesOn (s : PartitionSeen) (e : PartitionEvent) (new : PartitionSeen) : Type 0 where
  pub number : new.number ≡ s.number
  pub partitions : new.partitions ≡ s.partitions
  pub shape : new.table.shape ≡ s.table.shape
  pub limit : new.table.limit ≡ s.table.limit
  pub sure : new.store.sure ≡ s.store.sure
  pub path : new.store.path ≡ s.store.path
  pub journal : new.journal ≡ s.journal ++ e ∷ []
  pub book : new.book ≡ one_more_at s.book (worker_of e)

pub replayed-more : (r : Run) (p : ℕ) (s new : PartitionSeen) (e : PartitionEvent) → IsReplayed r p s → GoesOn s e new → worker_of e < r.limits.workers
    → slice_get (plan r (worker_of e) p) (slice_index_or s.book (worker_of e) 0) ≡ Some e
    → StandsFor r p (after_event r p s.journal (replay r p s.journal) e) new → new.store.held < 2 ^ 64 - 1 → IsReplayed r p new
replayed-more r p s new e at on lt next stands room = record {
  number = on.number ∙ at.number;
  in_run = at.in_run;
  partitions = on.partitions ∙ at.partitions;
  shape = on.shape ∙ at.shape;
  limit = on.limit ∙ at.limit;
  replayed = subst (λ (l : List PartitionEvent). StandsFor r p (replay r p l) new) (sym on.journal) (subst (λ (m : Replayed). StandsFor r p m new) (sym (replay-push r p s.journal e)) stands);
  numbers = room;
  sure = on.sure ∙ at.sure;
  path = on.path ∙ at.path;
  journal = subst (IsWithin r p) (sym on.journal) (within-next r p s.journal e at.journal lt (ap (λ n. slice_get (plan r (worker_of e) p) n) (sym (at.book (worker_of e) lt)) ∙ next));
  workers = ap (λ (l : List ℕ). length l) on.book ∙ length-set s.book (worker_of e) (slice_index_or s.book (worker_of e) 0 + 1) ∙ at.workers;
  book = λ w below.
      ap (λ (l : List ℕ). slice_index_or l w 0) on.book
      ∙ book-more s.book s.journal e r.limits.workers at.workers lt at.book w below
      ∙ ap (λ (l : List PartitionEvent). length (events_by w l)) (sym on.journal);
}

-- a partition in which nothing but room, faults, and whether a put was refused changed
pub replayed-kept : (r : Run) (p : ℕ) (s new : PartitionSeen) (failed : Bool) → IsReplayed r p s → IsKeptBut s new failed → IsReplayed r p new
replayed-kept r p s new failed at k =
    let journal : new.journal ≡ s.journal = ap (λ (x : PartitionSeen). x.journal) k.others in
    let book : new.book ≡ s.book = ap (λ (x : PartitionSeen). x.book) k.others in
    record {
      number = ap (λ (x : PartitionSeen). x.number) k.others ∙ at.number;
      in_run = at.in_run;
      partitions = ap (λ (x : PartitionSeen). x.partitions) k.others ∙ at.partitions;
      shape = k.table.shape.0 ∙ at.shape;
      limit = k.table.shape.1 ∙ at.limit;
      replayed = subst (λ (l : List PartitionEvent). StandsFor r p (replay r p l) new) (sym journal) (stands-kept r p (replay r p s.journal) s at.replayed failed new k);
      numbers = rw k.store.held at.numbers;
      sure = k.store.sure ∙ at.sure;
      path = k.store.path ∙ at.path;
      journal = rw journal at.journal;
      workers = rw book at.workers;
      book = λ w below. rw (book, journal) (at.book w below);
    }
