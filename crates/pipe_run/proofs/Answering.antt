-- What a run that has ended answers, and what its stores hold.
use Rattle.std.proofs.Common.{◌≡◌, ◌∙◌, ◌<◌, ◌^◌, ℕ, true, false, List, [], ◌∷◌, ◌++◌, length, map, refl, sym, ap, subst, arith, length-append}
use Rattle.std.specs.List.{All, slice_index_or, sum_by}
use Rattle.std.proofs.lemmas.List.{get_or-map, length-map}
use Rattle.pipe_columns.specs.Frame.{FrameData}
use Rattle.pipe_columns.specs.Row.{Row}
use Rattle.pipe_model.specs.Answer.{answer}
use Rattle.pipe_plan.specs.declared.event.PartitionEvent.{PartitionEvent}
use Rattle.pipe_plan.specs.Journals.{AreWhole, IsWhole, journal_of}
use Rattle.pipe_plan.specs.Overflow.{overflow_count}
use Rattle.pipe_plan.specs.Plan.{plan}
use Rattle.pipe_plan.specs.Replay.{events_by, replay}
use Rattle.pipe_plan.specs.Run.{all_rows, Run, StoreSeen, tells}
use Rattle.pipe_plan.specs.Whole.{all_kept, replayed_rows, rows_of}
use Rattle.pipe_plan.proofs.Adding.{count-over, sum_to, sum_to-same}
use Rattle.pipe_plan.proofs.AllRows.{all-held, overflow-held}
use Rattle.pipe_plan.proofs.Filtering.{count-all}
use Rattle.std.specs.Prelude.{count_by}
use Rattle.pipe_global.specs.Partition.{IsRunnable, no_store, PartitionSeen, store_of}
use Rattle.pipe_run.specs.Answered.{HasFrames, HasWholeFrames, HaveReplayedFrames, HaveWholeFrames, IsAnswered}
use Rattle.pipe_global.specs.Finishing.{KeepsRest}
use Rattle.pipe_asked.specs.Left.{AreSamePartitions}
use Rattle.pipe_run.specs.Fed.{AllStand, AreWholePartitions, IsWholePartition}
use Rattle.pipe_run.proofs.Feeding.{stands-frames, whole-stand}
use Rattle.pipe_asked.proofs.Lists.{front-all}
use Rattle.pipe_run.proofs.Whole.{journals_of, sum_by-positions}

-- the stores of partitions
abbrev pub stores_of : List PartitionSeen → List StoreSeen
stores_of closed = map (λ c. c.store) closed

-- ---- one partition

-- the journal of a partition with whole plans holds them
pub whole-journal : (r : Run) (p : ℕ) (s : PartitionSeen) → IsWholePartition r p s → IsWhole r p s.journal
whole-journal r p s is = record {
  workers = is.replayed.journal.workers;
  plans = λ w lt. front-all (events_by w s.journal) (plan r w p) (is.replayed.journal.plans w lt) (sym (is.replayed.book w lt) ∙ is.whole w lt);
}

-- a store that tells and holds as another does has its frames
frames-kept : (r : Run) (p : ℕ) (s new : PartitionSeen) (frames : List (List Row)) → KeepsRest s new → HasFrames (store_of r p) r frames s.store → HasFrames (store_of r p) r frames new.store
frames-kept r p s new frames kept has = record { told = kept.store.told ∙ has.told; held = kept.store.held ∙ has.held; sure = kept.store.sure ∙ has.sure; path = kept.store.path ∙ has.path }

-- partitions that weren't asked
pub kept-same : (closed : List PartitionSeen) → AreSamePartitions closed closed
kept-same closed = record {
  count = refl;
  each = λ p d lt. record { shape = (refl, refl); store = record { told = refl; held = refl; sure = refl; path = refl; faults = omega arith }; others = refl };
}

-- ---- all partitions

-- those that keep their journals have the frames of these, each with the default that the lists have
module _ (r : Run) (closed after : List PartitionSeen) (d : PartitionSeen) (stand : AllStand r closed) (kept : AreSamePartitions closed after) where
  long : length after ≡ r.limits.partitions
  long = kept.count ∙ stand.count

  pub journal-kept : (p : ℕ) → p < r.limits.partitions → journal_of (journals_of after) p ≡ (slice_index_or closed p d).journal
  journal-kept p lt = get_or-map (λ (s : PartitionSeen). s.journal) after p d [] (omega (arith, lt, long)) ∙ ap (λ (s : PartitionSeen). s.journal) (kept.each p d (omega (arith, lt, stand.count))).others

  store-at : (p : ℕ) → p < r.limits.partitions → slice_index_or (stores_of after) p no_store ≡ (slice_index_or after p d).store
  store-at p lt = get_or-map (λ (c : PartitionSeen). c.store) after p d no_store (omega (arith, lt, long))

  replayed-kept : HaveReplayedFrames r (journals_of after) (stores_of after)
  replayed-kept = record {
    count = length-map after (λ (c : PartitionSeen). c.store) ∙ long;
    each = λ p lt.
        let s = slice_index_or closed p d in
        let below : p < length closed = omega (arith, lt, stand.count) in
        let is = stand.each p d below in
        subst (λ (j : List PartitionEvent). HasFrames (store_of r p) r (replay r p j).frames (slice_index_or (stores_of after) p no_store)) (sym (journal-kept p lt))
        (subst (HasFrames (store_of r p) r (replay r p s.journal).frames) (sym (store-at p lt))
        (frames-kept r p s (slice_index_or after p d) (replay r p s.journal).frames (kept.each p d below) (record { told = is.replayed.told; held = is.replayed.held; sure = is.sure; path = is.path })));
  }

  whole-kept : 0 < r.limits.buffer_size → HaveWholeFrames r (stores_of after)
  whole-kept some = record {
    count = length-map after (λ (c : PartitionSeen). c.store) ∙ long;
    each = λ p lt.
        let s = slice_index_or closed p d in
        let below : p < length closed = omega (arith, lt, stand.count) in
        let has = stands-frames r p s some (stand.each p d below) in
        subst (HasWholeFrames r p) (sym (store-at p lt)) (record { frames = has.frames; pieces = has.pieces; has = frames-kept r p s (slice_index_or after p d) has.frames (kept.each p d below) has.has });
  }

  -- where the plans are whole
  module _ (run : IsRunnable r) (shut : r.is_open ≡ false) (whole : AreWholePartitions r closed) where
    plans-kept : AreWhole r (journals_of after)
    plans-kept p lt =
        let below : p < length closed = omega (arith, lt, stand.count) in
        subst (IsWhole r p) (sym (journal-kept p lt)) (whole-journal r p (slice_index_or closed p d) (whole.each p d below))

    -- all rows that arrived overflowed
    arrived-kept : sum_by (λ (s : PartitionSeen). s.arrived) after ≡ overflow_count r
    arrived-kept =
        let every : (xs : List Row) → count_by (λ x. true) xs ≡ length xs = λ xs. count-all (λ x. true) xs (λ front back x is. refl) in
        let rows : ℕ → List Row = λ p. rows_of (replay r p (journal_of (journals_of after) p)) in
        sum_by-positions (λ (s : PartitionSeen). s.arrived) d after
        ∙ sum_to-same (length after) (λ p. (slice_index_or after p d).arrived) (λ p. count_by (λ x. true) (rows p))
        (λ p lt.
        let here : p < r.limits.partitions = omega (arith, lt, long) in
        let below : p < length closed = omega (arith, here, stand.count) in
        ap (λ (s : PartitionSeen). s.arrived) (kept.each p d below).others
        ∙ (stand.each p d below).replayed.arrived
        ∙ ap (λ (j : List PartitionEvent). length (rows_of (replay r p j))) (sym (journal-kept p here))
        ∙ sym (every (rows p)))
        ∙ ap (λ n. sum_to n (λ p. count_by (λ x. true) (rows p))) long
        ∙ sym (count-over (λ x. true) rows r.limits.partitions)
        ∙ every (replayed_rows r (journals_of after))
        ∙ overflow-held r (journals_of after) run.limits.buffer shut plans-kept

    -- which are few
    few-kept : sum_by (λ (s : PartitionSeen). s.arrived) after < 2 ^ 32
    few-kept =
        let every : (xs : List Row) → count_by (λ x. true) xs ≡ length xs = λ xs. count-all (λ x. true) xs (λ front back x is. refl) in
        let held = all-held r (journals_of after) run.limits.workers run.limits.partitions run.limits.buffer shut plans-kept (λ x. true) in
        omega (
          arith,
          arrived-kept,
          overflow-held r (journals_of after) run.limits.buffer shut plans-kept,
          held,
          every (all_kept r ++ replayed_rows r (journals_of after)),
          every (all_rows r),
          length-append (all_kept r) (replayed_rows r (journals_of after)),
          run.few,
        )

    answered-kept : (frame : FrameData) (n : ℕ) → n ≡ sum_by (λ (s : PartitionSeen). s.arrived) after
        → (All (λ s. tells s ≡ true) r.stores → frame ≡ answer r.chunks r.query r.limits.partitions)
        → IsAnswered r (record { frame = frame; journals = journals_of after; overflow = n }) (stores_of after)
    answered-kept frame n is told = record {
      plans = plans-kept;
      count = length-map after (λ (s : PartitionSeen). s.journal) ∙ long;
      frames = replayed-kept;
      overflow = is ∙ arrived-kept;
      answer = told;
    }

-- ---- the same without a default

-- one of the partitions
pub some-partition : (r : Run) (closed : List PartitionSeen) → 0 < r.limits.partitions → AllStand r closed → PartitionSeen
some-partition r [] some stand = absurd (omega (arith, some, stand.count))
some-partition r (d ∷ closed) some stand = d

pub replayed-frames : (r : Run) (closed after : List PartitionSeen) → 0 < r.limits.partitions → AllStand r closed → AreSamePartitions closed after → HaveReplayedFrames r (journals_of after) (stores_of after)
replayed-frames r closed after some stand kept = replayed-kept r closed after (some-partition r closed some stand) stand kept

pub whole-frames : (r : Run) (closed after : List PartitionSeen) → 0 < r.limits.partitions → 0 < r.limits.buffer_size → AllStand r closed → AreSamePartitions closed after → HaveWholeFrames r (stores_of after)
whole-frames r closed after some buffer stand kept = whole-kept r closed after (some-partition r closed some stand) stand kept buffer

pub few-arrived : (r : Run) (closed after : List PartitionSeen) → IsRunnable r → r.is_open ≡ false → AreWholePartitions r closed → AreSamePartitions closed after → sum_by (λ (s : PartitionSeen). s.arrived) after < 2 ^ 32
few-arrived r closed after run shut whole kept =
    let stand = whole-stand r closed whole in
    few-kept r closed after (some-partition r closed run.limits.partitions stand) stand kept run shut whole

pub run-answered : (r : Run) (closed after : List PartitionSeen) (frame : FrameData) (n : ℕ) → IsRunnable r → r.is_open ≡ false → AreWholePartitions r closed → AreSamePartitions closed after
    → n ≡ sum_by (λ (s : PartitionSeen). s.arrived) after → (All (λ s. tells s ≡ true) r.stores → frame ≡ answer r.chunks r.query r.limits.partitions)
    → IsAnswered r (record { frame = frame; journals = journals_of after; overflow = n }) (stores_of after)
run-answered r closed after frame n run shut whole kept is told =
    let stand = whole-stand r closed whole in
    answered-kept r closed after (some-partition r closed run.limits.partitions stand) stand kept run shut whole frame n is told
