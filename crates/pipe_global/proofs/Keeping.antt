-- What a partition owes before an event, and keeps after it.
use Rattle.std.proofs.Common.{◌≡◌, ◌∙◌, ◌+◌, ◌-◌, ◌≤◌, ◌<◌, ◌^◌, ◌==◌, ℕ, true, List, [], ◌∷◌, ◌++◌, length, refl, sym, ap, subst, arith, length-append, Some, slice_get, take}
use Rattle.std.specs.Prelude.{slice_index_or}
use Rattle.std.specs.List.{All}
use Rattle.std.proofs.Math.Seq.{take-append_seam}
use Rattle.std.proofs.lemmas.Bool.{false≢true}
use Rattle.std.proofs.lemmas.List.{length-map}
use Rattle.std.proofs.lemmas.List.Elements.{All-cons, All-head, All-nil}
use Rattle.pipe_columns.specs.Causes.{Rose}
use Rattle.pipe_columns.specs.Row.{Row}
use Rattle.pipe_aggs.specs.CheckedQuery.{input_types}
use Rattle.pipe_model.specs.Output.{key_types}
use Rattle.pipe_plan.specs.declared.event.PartitionEvent.{PartitionEvent}
use Rattle.pipe_plan.specs.declared.event.PartitionEvent.TheVariants as event
use Rattle.pipe_plan.specs.Plan.{plan}
use Rattle.pipe_plan.specs.Replay.{after_dump, after_event, events_by, joined_lists, next_piece, replay, Replayed, worker_of}
use Rattle.pipe_plan.specs.Run.{Run}
use Rattle.pipe_plan.specs.Whole.{rows_of}
use Rattle.pipe_plan.proofs.Replaying.{replay-push}
use Rattle.pipe_spill.specs.SpillRow.{AreRows, HasValues, HaveInputs, joined_rows, Payload, payload_of, spilled}
use Rattle.pipe_spill.proofs.SpilledRows.{rows_have_inputs, spilled_are_rows}
use Rattle.pipe_groups.specs.Shape.{Shape}
use Rattle.pipe_keyed.specs.Tables.{Table}
use Rattle.pipe_global.specs.Moving.{CanMerge}
use Rattle.pipe_global.specs.Next.{next_event, next_payload}
use Rattle.pipe_global.specs.Partition.{IsCounted, IsReplayed, IsRunnable, no_store, PartitionSeen, payloads_of, spilled_all, StandsFor, store_of}
use Rattle.pipe_global.specs.Shares.{share_of, SharesSeen}
use Rattle.pipe_global.specs.Steps.{IsDumped, IsMerged, with_payload}
use Rattle.pipe_global.proofs.Covering.{all-left, all-right}
use Rattle.pipe_global.proofs.ReplayFacts.{replayed-more}
use Rattle.pipe_global.proofs.RunFacts.{Each, frames-few, length-kept, replay-each, rows-few}
use Rattle.pipe_global.proofs.StandFacts.{stands-arrival, stands-dump, stands-merge, waiting-count, waiting-rows}

-- ---- what it holds is of the run

module _ (r : Run) (p : ℕ) (s : PartitionSeen) (run : IsRunnable r) (at : IsReplayed r p s) where
  abbrev made : Replayed
  made = replay r p s.journal

  each : Each (HasValues (key_types r.query) (input_types r.query)) made
  each = replay-each (HasValues (key_types r.query) (input_types r.query)) r p run.limits.buffer run.typed s.journal

  all-few : length (rows_of made) < 2 ^ 32
  all-few = omega (arith, run.few, rows-few r p s.journal run.limits.workers run.limits.buffer at.journal.workers)

  -- few rows arrived
  pub arrived-few : s.arrived < 2 ^ 32
  arrived-few = omega (arith, at.replayed.arrived, all-few)

  parts : length (rows_of made) ≡ length made.merged + (length (joined_lists made.waiting) + length (joined_lists made.frames))
  parts = length-append made.merged (joined_lists made.waiting ++ joined_lists made.frames) ∙ ap (λ n. length made.merged + n) (length-append (joined_lists made.waiting) (joined_lists made.frames))

  -- few rows wait
  pub waiting-few : length (joined_rows s.waiting) < 2 ^ 32
  waiting-few = omega (arith, all-few, parts, waiting-count r.query made.waiting s.waiting at.replayed.waiting)

  -- what waits can be merged
  pub can-merge : CanMerge s.table (joined_rows s.waiting)
  can-merge =
      let typed : AreRows (key_types r.query) (input_types r.query) (joined_rows s.waiting) =
      subst (AreRows (key_types r.query) (input_types r.query)) (sym (waiting-rows r.query made.waiting s.waiting at.replayed.waiting)) (spilled_are_rows (key_types r.query) (input_types r.query) (joined_lists made.waiting) each.waiting) in
      let merged : AreRows (key_types r.query) (input_types r.query) (spilled_all r.query made.merged) = spilled_are_rows (key_types r.query) (input_types r.query) made.merged each.merged in
      record {
        limit = at.limit;
        typed = subst (λ (x : Shape). AreRows x.key_types x.input_types (joined_rows s.waiting)) (sym at.shape) typed;
        few = record {
          rows = spilled_all r.query made.merged;
          holds = at.replayed.merged;
          typed = subst (λ (x : Shape). AreRows x.key_types x.input_types (spilled_all r.query made.merged)) (sym at.shape) merged;
          few = omega (arith, all-few, parts, waiting-count r.query made.waiting s.waiting at.replayed.waiting, length-map made.merged (spilled (key_types r.query)));
        };
      }

  -- and be written
  pub can-write : All (λ p. HaveInputs s.table.shape.input_types p.rows) s.waiting
  can-write =
      subst (λ (x : Shape). All (λ p. HaveInputs x.input_types p.rows) s.waiting) (sym at.shape)
      (subst (λ (ps : List Payload). All (λ p. HaveInputs (input_types r.query) p.rows) ps) (sym at.replayed.waiting) (written made.waiting each.waiting))
    where
      written : (ps : List (List Row)) → All (HasValues (key_types r.query) (input_types r.query)) (joined_lists ps) → All (λ p. HaveInputs (input_types r.query) p.rows) (payloads_of r.query ps)
      written [] all = All-nil (λ (p : Payload). HaveInputs (input_types r.query) p.rows)
      written (x ∷ ps) all =
          let own : All (HasValues (key_types r.query) (input_types r.query)) x = all-left (HasValues (key_types r.query) (input_types r.query)) x (joined_lists ps) all in
          All-cons (λ (p : Payload). HaveInputs (input_types r.query) p.rows) (payload_of (key_types r.query) x) (payloads_of r.query ps)
          (rows_have_inputs (key_types r.query) (input_types r.query) (spilled_all r.query x) (spilled_are_rows (key_types r.query) (input_types r.query) x own))
          (written ps (all-right (HasValues (key_types r.query) (input_types r.query)) x (joined_lists ps) all))

  -- a book is no longer than the journal
  pub book-few : (w n : ℕ) → w < r.limits.workers → n ≡ length s.journal → n < 2 ^ 63 → slice_index_or s.book w 0 + 1 < 2 ^ 64
  book-few w n lt is small = omega (arith, is, small, at.book w lt, kept w s.journal)
    where
      kept : (w : ℕ) (events : List PartitionEvent) → length (events_by w events) ≤ length events
      kept w events = length-kept (λ e. worker_of e == w) events

-- ---- the next event

module _ (r : Run) (s seen : PartitionSeen) (h : SharesSeen) (w : ℕ) (view : s ≡ seen) (worker : w ≡ h.worker) (lt : w < r.limits.workers)
    (run : IsRunnable r) (at : IsReplayed r s.number s)
    (same : slice_index_or seen.book h.worker 0 ≡ share_of h seen.number) where
  -- the worker's share is its book, which has numbers above it
  pub share-few : (q n : ℕ) → q ≡ s.number → n ≡ length s.journal → n < 2 ^ 63 → share_of h q + 1 < 2 ^ 64
  share-few q n number is small =
      let own : slice_index_or seen.book h.worker 0 ≡ slice_index_or s.book w 0 = rw (view, worker) refl in
      let there : share_of h q ≡ share_of h seen.number = rw (number, view) refl in
      omega (arith, there, own, same, book-few r s.number s run at w n lt is small)

  -- it is next in the journal
  pub next-own : (f : ℕ → PartitionEvent) → next_event r h seen.number ≡ Some (f h.worker) → slice_get (plan r w s.number) (slice_index_or s.book w 0) ≡ Some (f w)
  next-own f next = rw (view, worker) (ap (λ n. slice_get (plan r h.worker seen.number) n) same ∙ next)

  -- the payload is the piece behind those that arrived
  pub piece-own : (payload : Payload) → payload ≡ next_payload r h seen.number → payload ≡ payload_of (key_types r.query) (next_piece r w s.number (events_by w s.journal))
  piece-own payload is =
      let count : share_of h seen.number ≡ length (events_by w s.journal) = sym same ∙ own ∙ at.book w lt in
      let front = at.journal.plans w lt in
      let taken : take (length (events_by w s.journal)) (plan r w s.number) ≡ events_by w s.journal = ap (take (length (events_by w s.journal))) front.is ∙ take-append_seam (events_by w s.journal) front.rest in
      is
      ∙ ap (λ n. payload_of (key_types r.query) (next_piece r h.worker seen.number (take n (plan r h.worker seen.number)))) count
      ∙ moved
      ∙ ap (λ (l : List PartitionEvent). payload_of (key_types r.query) (next_piece r w s.number l)) taken
    where
      own : slice_index_or seen.book h.worker 0 ≡ slice_index_or s.book w 0
      own = rw (view, worker) refl

      moved : payload_of (key_types r.query) (next_piece r h.worker seen.number (take (length (events_by w s.journal)) (plan r h.worker seen.number)))
          ≡ payload_of (key_types r.query) (next_piece r w s.number (take (length (events_by w s.journal)) (plan r w s.number)))
      moved = rw (view, worker) refl

  pub arrive-next : (payload : Payload) → next_event r h seen.number ≡ Some (event.Arrive h.worker) → payload ≡ next_payload r h seen.number → IsReplayed r s.number (with_payload s w payload)
  arrive-next payload next is =
      replayed-more r s.number s (with_payload s w payload) (event.Arrive w) at (record { number = refl; partitions = refl; shape = refl; limit = refl; sure = refl; path = refl; journal = refl; book = refl }) lt
      (next-own (λ v. event.Arrive v) next)
      (stands-arrival r s.number (replay r s.number s.journal) s at.replayed w (next_piece r w s.number (events_by w s.journal)) payload (piece-own payload is)) at.numbers

  -- few rows come with it
  pub arrive-few : (payload : Payload) → next_event r h seen.number ≡ Some (event.Arrive h.worker) → payload ≡ next_payload r h seen.number → s.arrived + length payload.rows < 2 ^ 64
  arrive-few payload next is = omega (arith, arrived-few r s.number (with_payload s w payload) run (arrive-next payload next is))

  -- and they have inputs of their types
  pub piece-inputs : (payload : Payload) → next_event r h seen.number ≡ Some (event.Arrive h.worker) → payload ≡ next_payload r h seen.number → HaveInputs s.table.shape.input_types payload.rows
  piece-inputs payload next is =
      let P : Payload → Type 0 = λ p. HaveInputs s.table.shape.input_types p.rows in
      let all : All P (s.waiting ++ payload ∷ []) = can-write r s.number (with_payload s w payload) run (arrive-next payload next is) in
      All-head P payload [] (all-right P s.waiting (payload ∷ []) all)

  pub merge-next : (new : PartitionSeen) → next_event r h seen.number ≡ Some (event.Merge h.worker) → IsMerged s w new → IsReplayed r s.number new
  merge-next new next m =
      let store : new.store ≡ s.store = ap (λ (x : PartitionSeen). x.store) m.others in
      replayed-more r s.number s new (event.Merge w) at
      (record {
        number = ap (λ (x : PartitionSeen). x.number) m.others;
        partitions = ap (λ (x : PartitionSeen). x.partitions) m.others;
        shape = m.taken.shape.0;
        limit = m.taken.shape.1;
        sure = ap (λ (x : PartitionSeen). x.store.sure) m.others;
        path = ap (λ (x : PartitionSeen). x.store.path) m.others;
        journal = ap (λ (x : PartitionSeen). x.journal) m.others;
        book = ap (λ (x : PartitionSeen). x.book) m.others;
      })
      lt (next-own (λ v. event.Merge v) next)
      (stands-merge r s.number (replay r s.number s.journal) s at.replayed w new m) (rw store at.numbers)

  -- the store has numbers left after as many frames as events
  numbers-left : (new : PartitionSeen) (n : ℕ) → StandsFor r s.number (replay r s.number new.journal) new → n ≡ length new.journal → n < 2 ^ 63 → new.store.held < 2 ^ 64 - 1
  numbers-left new n stands is small = omega (arith, stands.held, is, small, frames-few r s.number new.journal, former)
    where
      former : (store_of r s.number).held < 2 ^ 63
      former = run.former s.number no_store (omega (arith, run.stores, at.in_run))

  pub dump-next : (new : PartitionSeen) (limit n : ℕ) → next_event r h seen.number ≡ Some (event.Dump h.worker) → limit ≡ r.limits.payload_limit → IsDumped limit s w new
      → n ≡ length new.journal → n < 2 ^ 63 → IsReplayed r s.number new
  dump-next new limit n next lim d is small =
      let table : new.table ≡ s.table = ap (λ (x : PartitionSeen). x.table) d.others in
      let journal : new.journal ≡ s.journal ++ event.Dump w ∷ [] = ap (λ (x : PartitionSeen). x.journal) d.others in
      let stands : StandsFor r s.number (after_event r s.number s.journal (replay r s.number s.journal) (event.Dump w)) new =
      subst (λ n. StandsFor r s.number (after_dump n (replay r s.number s.journal)) new) lim (stands-dump r s.number (replay r s.number s.journal) s at.replayed w limit new at.shape d) in
      let on : StandsFor r s.number (replay r s.number new.journal) new =
      subst (λ (l : List PartitionEvent). StandsFor r s.number (replay r s.number l) new) (sym journal)
      (subst (λ (m : Replayed). StandsFor r s.number m new) (sym (replay-push r s.number s.journal (event.Dump w))) stands) in
      replayed-more r s.number s new (event.Dump w) at
      (record {
        number = ap (λ (x : PartitionSeen). x.number) d.others;
        partitions = ap (λ (x : PartitionSeen). x.partitions) d.others;
        shape = ap (λ (t : Table). t.shape) table;
        limit = ap (λ (t : Table). t.limit) table;
        sure = d.store.sure;
        path = d.store.path;
        journal = journal;
        book = ap (λ (x : PartitionSeen). x.book) d.others;
      })
      lt (next-own (λ v. event.Dump v) next) stands (numbers-left new n on is small)

-- ---- faults

-- an event leaves whether a put was refused, and the count of faults
pub counted-same : (r : Run) (n : ℕ) (s new : PartitionSeen) → new.number ≡ s.number → new.failed ≡ s.failed → new.store.faults ≡ s.store.faults → IsCounted r n s → IsCounted r n new
counted-same r n s new number failed same at = rw number record {
  failed = rw failed at.failed;
  rose = λ f. omega (arith, at.rose (sym failed ∙ f), same);
  calm = λ f. same ∙ at.calm (sym failed ∙ f);
  count = omega (arith, at.count, same);
}

-- a put that was refused is counted
pub counted-refused : (r : Run) (n m : ℕ) (s new : PartitionSeen) → new.number ≡ s.number → new.failed ≡ true → s.store.faults ≤ new.store.faults → Rose s.store.faults new.store.faults → m ≡ n + 1
    → IsCounted r n s → IsCounted r m new
counted-refused r n m s new number failed more rose is at = rw number record {
  failed = ((λ _. omega (arith, is)), (λ _. failed));
  rose = λ f. omega (arith, at.count, rose);
  calm = λ f. absurd (false≢true (sym f ∙ failed));
  count = omega (arith, at.count, more);
}
