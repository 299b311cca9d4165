-- How workers and partitions stand where no worker stopped and no put was refused.
use Rattle.std.proofs.Common.{◌≡◌, ◌∙◌, ◌<◌, ℕ, zero, suc, Bool, true, false, not, List, [], ◌∷◌, length, map, refl, sym, ap, subst, arith, Option, None, Some}
use Rattle.std.specs.Prelude.{is_some}
use Rattle.std.specs.List.{All, list_all, slice_index_or}
use Rattle.std.proofs.lemmas.Bool.{and_parts, false≢true}
use Rattle.std.proofs.lemmas.List.{get_or-map, length-map}
use Rattle.pipe_columns.specs.Row.{Row}
use Rattle.pipe_plan.specs.declared.event.PartitionEvent.{PartitionEvent}
use Rattle.pipe_plan.specs.Plan.{plan}
use Rattle.pipe_plan.specs.Run.{AreLimits, is_generic, Run}
use Rattle.pipe_plan.proofs.Fronts.{plan-open}
use Rattle.pipe_plan.proofs.Reaching.{worker-all}
use Rattle.pipe_groups.specs.Shape.{shape_of}
use Rattle.pipe_tables.specs.After.{IsAfter}
use Rattle.pipe_global.specs.Closed.{all_events, all_shares, AreClosed}
use Rattle.pipe_global.specs.Partition.{PartitionSeen}
use Rattle.pipe_global.specs.Shares.{share_of, SharesSeen}
use Rattle.pipe_workers.specs.declared.paused.PausedWorker.{PausedWorker}
use Rattle.pipe_workers.specs.declared.stop.WorkerStop.{WorkerStop}
use Rattle.pipe_workers.specs.Rounds.{HasEnded, IsDone, JobSeen}
use Rattle.pipe_workers.specs.Workers.{WorkerSeen}
use Rattle.pipe_run.specs.Fed.{AllStand, AreCounted, AreWholePartitions, HasKept, HaveEnded, IsRested, RoseAt}
use Rattle.pipe_run.specs.Rounds.{AreWholeShares, has_gone_on, paused_of, shares_of}
use Rattle.pipe_run.proofs.Whole.{journal-at, whole-journals}

-- what all have, each has
all-at : (jobs : List JobSeen) (w : ℕ) (d : JobSeen) → w < length jobs → list_all has_gone_on jobs ≡ true → has_gone_on (slice_index_or jobs w d) ≡ true
all-at [] w d lt all = absurd (omega (arith, lt))
all-at (j ∷ jobs) zero d lt all = (and_parts (has_gone_on j) (list_all has_gone_on jobs) all).0
all-at (j ∷ jobs) (suc w) d lt all = all-at jobs w d (omega (arith, lt)) (and_parts (has_gone_on j) (list_all has_gone_on jobs) all).1

-- one that went on is done
ended-done : (r : Run) (w : ℕ) (j : JobSeen) → HasEnded r w j → has_gone_on j ≡ true → IsDone r w j.worker
ended-done r w j ended on = by j.worker j.end ended on where
  by : (k : WorkerSeen) (end : Option WorkerStop) → HasEnded r w (record { worker = k; end = end }) → not (is_some end) ≡ true → IsDone r w k
  by k None ended on = ended
  by k (Some stop) ended on = absurd (false≢true on)

module _ (r : Run) (jobs : List JobSeen) (d : JobSeen) (generic : is_generic r.limits.sink ≡ true) (count : length jobs ≡ r.limits.workers)
    (ended : (w : ℕ) (d : JobSeen) → w < length jobs → HasEnded r w (slice_index_or jobs w d)) (all : list_all has_gone_on jobs ≡ true) where
  done : (w : ℕ) → w < length jobs → IsDone r w (slice_index_or jobs w d).worker
  done w lt = ended-done r w (slice_index_or jobs w d) (ended w d lt) (all-at jobs w d lt all)

  share-at : (w : ℕ) (e : SharesSeen) → w < length jobs → slice_index_or (map shares_of jobs) w e ≡ (slice_index_or jobs w d).worker.shares
  share-at w e lt = get_or-map shares_of jobs w d e lt

  rest-at : (w : ℕ) (e : PausedWorker) → w < length jobs → slice_index_or (map paused_of jobs) w e ≡ paused_of (slice_index_or jobs w d)
  rest-at w e lt = get_or-map paused_of jobs w d e lt

  -- its shares count the whole plan
  events-whole : (w p : ℕ) → w < length jobs → p < r.limits.partitions → share_of (slice_index_or jobs w d).worker.shares p ≡ length (plan r w p)
  events-whole w p lt here = by r.is_open refl where
    by : (o : Bool) → r.is_open ≡ o → share_of (slice_index_or jobs w d).worker.shares p ≡ length (plan r w p)
    by true is = ((done w lt).open_run is).after.shares.events p here ∙ ap (λ (l : List PartitionEvent). length l) (sym (plan-open r w p is generic))
    by false is = ((done w lt).closed_run is).shares.events p here

  -- so do all
  pub shares-whole : All (λ (s : SharesSeen). length s.events ≡ r.limits.partitions) (map shares_of jobs) → AreWholeShares r (map shares_of jobs)
  shares-whole lens w e lt =
      let below : w < length jobs = omega (arith, lt, length-map jobs shares_of) in
      (lens w e lt, λ p here. ap (λ (s : SharesSeen). share_of s p) (share-at w e below) ∙ events-whole w p below here)

  rested : (w : ℕ) → w < length jobs → r.is_open ≡ true → IsRested r w (paused_of (slice_index_or jobs w d))
  rested w lt is =
      let ready = (done w lt).open_run is in
      record {
        table = subst (λ (l : List Row). IsAfter r.limits (shape_of r.query) l (slice_index_or jobs w d).worker.table) (worker-all r w (length r.chunks) (omega arith)) ready.after.table;
        turns = ready.turns;
        picks = ready.after.shares.picks;
      }

  kept : (w : ℕ) → w < length jobs → r.is_open ≡ false → HasKept r w (paused_of (slice_index_or jobs w d))
  kept w lt is =
      let closed = (done w lt).closed_run is in
      record { shape = closed.shape; holds = closed.holds; none_waits = closed.none_waits }

  -- the workers rest, or have closed
  pub have-ended : HaveEnded r (map paused_of jobs)
  have-ended = record {
    open_run = λ is. record {
      count = length-map jobs paused_of ∙ count;
      each = λ w e lt.
          let below : w < length jobs = omega (arith, lt, length-map jobs paused_of) in
          subst (IsRested r w) (sym (rest-at w e below)) (rested w below is);
    };
    closed_run = λ is. record {
      count = length-map jobs paused_of ∙ count;
      each = λ w e lt.
          let below : w < length jobs = omega (arith, lt, length-map jobs paused_of) in
          subst (HasKept r w) (sym (rest-at w e below)) (kept w below is);
    };
  }

-- the partitions hold the plans whole
pub whole-partitions : (r : Run) (partitions : List PartitionSeen) (shares : List SharesSeen) (d : PartitionSeen) (e : SharesSeen)
    → length partitions ≡ r.limits.partitions → length shares ≡ r.limits.workers → AreClosed r partitions → all_events partitions ≡ all_shares shares → AreWholeShares r shares
    → ((p : ℕ) (d : PartitionSeen) → p < length partitions → (slice_index_or partitions p d).failed ≡ false)
    → AreWholePartitions r partitions
whole-partitions r partitions shares d e count workers closed same whole sound =
    let journals = whole-journals r partitions shares d e count workers closed same whole in
    record {
      count = count;
      each = λ p d lt.
          let here : p < r.limits.partitions = omega (arith, lt, count) in
          let is = closed p d lt in
          record {
            replayed = is.replayed;
            sound = sound p d lt;
            whole = λ w mine. is.replayed.book w mine ∙ ap (λ (l : List PartitionEvent). length l) (ap (λ (j : List PartitionEvent). Rattle.pipe_plan.specs.Replay.events_by w j) (sym (journal-at partitions p d lt)) ∙ (journals p here).plans w mine);
          };
    }

-- ---- for answers: lists that aren't empty have a first

module _ (r : Run) (jobs : List JobSeen) (some : 0 < r.limits.workers) (generic : is_generic r.limits.sink ≡ true) (count : length jobs ≡ r.limits.workers)
    (ended : (w : ℕ) (d : JobSeen) → w < length jobs → HasEnded r w (slice_index_or jobs w d)) where
  pub all-whole : (shares : List SharesSeen) → shares ≡ map shares_of jobs → All (λ (s : SharesSeen). length s.events ≡ r.limits.partitions) shares → list_all has_gone_on jobs ≡ true → AreWholeShares r shares
  all-whole shares is lens all = by jobs refl where
    by : (js : List JobSeen) → jobs ≡ js → AreWholeShares r shares
    by [] none = absurd (omega (arith, some, count, ap (λ (l : List JobSeen). length l) none))
    by (j ∷ js) e = subst (AreWholeShares r) (sym is) (shares-whole r jobs j generic count ended all (subst (All (λ (s : SharesSeen). length s.events ≡ r.limits.partitions)) is lens))

  pub all-ended : (rests : List PausedWorker) → rests ≡ map paused_of jobs → list_all has_gone_on jobs ≡ true → HaveEnded r rests
  all-ended rests is all = by jobs refl where
    by : (js : List JobSeen) → jobs ≡ js → HaveEnded r rests
    by [] none = absurd (omega (arith, some, count, ap (λ (l : List JobSeen). length l) none))
    by (j ∷ js) e = subst (HaveEnded r) (sym is) (have-ended r jobs j generic count ended all)

pub all-partitions : (r : Run) (partitions : List PartitionSeen) (shares : List SharesSeen) → AreLimits r.limits
    → length partitions ≡ r.limits.partitions → length shares ≡ r.limits.workers → AreClosed r partitions → all_events partitions ≡ all_shares shares → AreWholeShares r shares
    → ((p : ℕ) (d : PartitionSeen) → p < length partitions → (slice_index_or partitions p d).failed ≡ false)
    → AreWholePartitions r partitions
all-partitions r partitions shares limits count workers closed same whole sound = by partitions shares refl refl where
  by : (ps : List PartitionSeen) (ss : List SharesSeen) → partitions ≡ ps → shares ≡ ss → AreWholePartitions r partitions
  by [] ss none e = absurd (omega (arith, limits.partitions, count, ap (λ (l : List PartitionSeen). length l) none))
  by (p ∷ ps) [] e none = absurd (omega (arith, limits.workers, workers, ap (λ (l : List SharesSeen). length l) none))
  by (p ∷ ps) (x ∷ ss) e f = whole-partitions r partitions shares p x count workers closed same whole sound

-- ---- a round that was refused

-- closed partitions stand for the run
pub closed-stand : (r : Run) (partitions : List PartitionSeen) → length partitions ≡ r.limits.partitions → AreClosed r partitions → AllStand r partitions
closed-stand r partitions count closed = record { count = count; each = λ p d lt. (closed p d lt).replayed }

-- and the count of the first that failed rose
pub closed-rose : (r : Run) (partitions : List PartitionSeen) (p q : ℕ) → length partitions ≡ r.limits.partitions → AreClosed r partitions → p < length partitions
    → ((d : PartitionSeen) → (slice_index_or partitions p d).failed ≡ true) → ((k : ℕ) (d : PartitionSeen) → k < p → (slice_index_or partitions k d).failed ≡ false) → p ≡ q → RoseAt r q partitions
closed-rose r partitions p q count closed lt failed first e = subst (λ k. RoseAt r k partitions) e (record {
  exists = omega (arith, lt, count);
  rose = λ d. (closed p d lt).rose (failed d);
  least = λ k d less. (closed k d (omega (arith, less, lt))).calm (first k d less);
})

-- where none failed each count is as the run found it
pub closed-calm : (r : Run) (partitions : List PartitionSeen) → AreClosed r partitions → ((p : ℕ) (d : PartitionSeen) → p < length partitions → (slice_index_or partitions p d).failed ≡ false) → AreCounted r partitions
closed-calm r partitions closed sound p d lt = (closed p d lt).calm (sound p d lt)
