-- What a round leaves is of the run as it was begun, whatever its stores' faults were counted from.
use Rattle.std.proofs.Common.{◌≡◌, ◌∙◌, ◌+◌, ◌<◌, ◌≤◌, ℕ, List, length, map, ap, subst, arith}
use Rattle.std.specs.List.{slice_index_or}
use Rattle.std.proofs.lemmas.List.{get_or-map, length-map}
use Rattle.pipe_columns.specs.Causes.{Rose}
use Rattle.pipe_plan.specs.Replay.{replay}
use Rattle.pipe_plan.specs.Run.{Run}
use Rattle.pipe_global.specs.Partition.{frame_bytes_of, IsReplayed, marks_from, PartitionSeen, with_frames}
use Rattle.pipe_workers.specs.declared.paused.PausedWorker.{PausedWorker}
use Rattle.pipe_asked.specs.Left.{CountOn, RoseFrom}
use Rattle.pipe_run.specs.Fed.{AllStand, AreCounted, AreWholePartitions, HaveEnded, RoseAt}
use Rattle.pipe_run.specs.Setting.{counted_from}
use Rattle.pipe_run.proofs.Carrying.{counted-at, faults-at}

module _ (r : Run) (faults : List ℕ) (same : length faults ≡ length r.stores) where
  -- what a partition stands for doesn't read the count
  pub replayed-uncounted : (p : ℕ) (s : PartitionSeen) → IsReplayed (counted_from r faults) p s → IsReplayed r p s
  replayed-uncounted p s is =
      let alike = counted-at r.stores faults p same in
      let made = replay r p s.journal in
      record {
        number = is.number;
        in_run = is.in_run;
        partitions = is.partitions;
        shape = is.shape;
        limit = is.limit;
        replayed = record {
          merged = is.replayed.merged;
          waiting = is.replayed.waiting;
          marks = subst (λ n. s.marks ≡ marks_from n made.frames) alike.held is.replayed.marks;
          held = is.replayed.held ∙ ap (λ n. n + length made.frames) alike.held;
          told = is.replayed.told ∙ ap (λ t. with_frames t (map (frame_bytes_of r.query) made.frames)) alike.told;
          arrived = is.replayed.arrived;
        };
        numbers = is.numbers;
        sure = is.sure ∙ alike.sure;
        path = is.path ∙ alike.path;
        journal = record { workers = is.journal.workers; plans = is.journal.plans };
        workers = is.workers;
        book = is.book;
      }

  pub stand-uncounted : (closed : List PartitionSeen) → AllStand (counted_from r faults) closed → AllStand r closed
  stand-uncounted closed all = record { count = all.count; each = λ p d lt. replayed-uncounted p (slice_index_or closed p d) (all.each p d lt) }

  pub whole-uncounted : (closed : List PartitionSeen) → AreWholePartitions (counted_from r faults) closed → AreWholePartitions r closed
  whole-uncounted closed all = record {
    count = all.count;
    each = λ p d lt. let is = all.each p d lt in record { replayed = replayed-uncounted p (slice_index_or closed p d) is.replayed; sound = is.sound; whole = is.whole };
  }

  pub ended-uncounted : (rests : List PausedWorker) → HaveEnded (counted_from r faults) rests → HaveEnded r rests
  ended-uncounted rests ended = record {
    open_run = λ is. let all = ended.open_run is in record { count = all.count; each = λ w d lt. let one = all.each w d lt in record { table = one.table; turns = one.turns; picks = one.picks } };
    closed_run = λ is. let all = ended.closed_run is in record { count = all.count; each = λ w d lt. let one = all.each w d lt in record { shape = one.shape; holds = one.holds; none_waits = one.none_waits } };
  }

-- the count of the first that rose since the round began is the first since the partitions taken over
pub rose-uncounted : (r : Run) (before after : List PartitionSeen) (p : ℕ) → length before ≡ length r.stores → length r.stores ≡ r.limits.partitions
    → RoseAt (counted_from r (map (λ c. c.store.faults) before)) p after → RoseFrom before p after
rose-uncounted r before after p same count rose =
    let long : length (map (λ c. c.store.faults) before) ≡ length r.stores = length-map before (λ (c : PartitionSeen). c.store.faults) ∙ same in
    let lt : p < length r.stores = omega (arith, rose.exists, count) in
    let here : p < length before = omega (arith, lt, same) in
    record {
      exists = here;
      rose = λ d. subst (λ n. Rose n (slice_index_or after p d).store.faults)
          (faults-at r.stores (map (λ c. c.store.faults) before) p long lt ∙ get_or-map (λ (c : PartitionSeen). c.store.faults) before p d 0 here)
          (rose.rose d);
      least = λ k d less.
          rose.least k d less
          ∙ faults-at r.stores (map (λ c. c.store.faults) before) k long (omega (arith, less, lt))
          ∙ get_or-map (λ (c : PartitionSeen). c.store.faults) before k d 0 (omega (arith, less, here));
    }

-- and one that is as the round began is that of the partition taken over
pub counted-on : (r : Run) (before after : List PartitionSeen) → length before ≡ length r.stores → length after ≡ length before
    → AreCounted (counted_from r (map (λ c. c.store.faults) before)) after → CountOn before after
counted-on r before after same count counted p d lt =
    let long : length (map (λ c. c.store.faults) before) ≡ length r.stores = length-map before (λ (c : PartitionSeen). c.store.faults) ∙ same in
    counted p d (omega (arith, lt, count))
    ∙ faults-at r.stores (map (λ c. c.store.faults) before) p long (omega (arith, lt, same))
    ∙ get_or-map (λ (c : PartitionSeen). c.store.faults) before p d 0 lt
