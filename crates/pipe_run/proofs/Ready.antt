-- Workers that rest after an open run are ready in a run that goes on from it.
use Rattle.std.proofs.Common.{◌≡◌, ◌∙◌, ◌<◌, ℕ, zero, suc, Bool, true, List, [], ◌∷◌, length, map, refl, sym, ap, subst, arith}
use Rattle.std.specs.Prelude.{replicate}
use Rattle.std.specs.List.{slice_index_or}
use Rattle.std.proofs.lemmas.List.{get_or-map}
use Rattle.pipe_columns.specs.declared.data_chunk.DataChunk.{DataChunk}
use Rattle.pipe_columns.specs.Row.{Row}
use Rattle.pipe_plan.specs.declared.event.PartitionEvent.{PartitionEvent}
use Rattle.pipe_plan.specs.Plan.{events_before}
use Rattle.pipe_plan.specs.Run.{is_generic, Run}
use Rattle.pipe_plan.proofs.Fronts.{events-on, picks-on, plan-open, taken-on}
use Rattle.pipe_groups.specs.Shape.{shape_of}
use Rattle.pipe_tables.specs.After.{IsAfter}
use Rattle.pipe_global.specs.Partition.{PartitionSeen}
use Rattle.pipe_global.specs.Resuming.{AreResumed, books_of}
use Rattle.pipe_global.specs.Shares.{share_of, SharesSeen}
use Rattle.pipe_workers.specs.declared.paused.PausedWorker.{PausedWorker}
use Rattle.pipe_workers.specs.Rounds.{JobSeen}
use Rattle.pipe_workers.specs.Turns.{IsReady}
use Rattle.pipe_run.specs.Fed.{IsFed}
use Rattle.pipe_run.specs.Rounds.{job_of, jobs_of, paused_of, shares_of, StandReady, resumed_worker}
use Rattle.pipe_run.specs.Setting.{run_over, Setting}
use Rattle.pipe_run.proofs.Carrying.{from, on, onto}

module _ (x : Setting) (o : Bool) (before more : List DataChunk) (faults : List ℕ) (closed : List PartitionSeen) (rests : List PausedWorker) (generic : is_generic x.limits.sink ≡ true)
    (fed : IsFed (run_over x true before) closed rests) where
  abbrev r : Run
  r = from x o before more faults

  abbrev s : Run
  s = onto x o before more faults

  -- the events that a book counts are those of the turns
  book-events : (w p : ℕ) (d : PartitionSeen) → w < x.limits.workers → p < x.limits.partitions → slice_index_or (books_of closed w) p 0 ≡ length (events_before s w p (length before))
  book-events w p d mine lt =
      let below : p < length closed = omega (arith, fed.partitions.count, lt) in
      get_or-map (λ (c : PartitionSeen). slice_index_or c.book w 0) closed p d 0 below
      ∙ (fed.partitions.each p d below).whole w mine
      ∙ ap (λ (l : List PartitionEvent). length l) (plan-open r w p refl generic)
      ∙ ap (λ (l : List PartitionEvent). length l) (sym (events-on r s (on x o before more faults) w p (length before) (omega arith)))

  module _ (shares : List SharesSeen) (e : PartitionSeen) (count : length shares ≡ x.limits.workers) (resumed : AreResumed closed (map (λ (c : PausedWorker). c.picks) rests) shares) where
    one : (w : ℕ) (d : PausedWorker) (k : SharesSeen) → w < length shares → IsReady s w (length before) (resumed_worker (slice_index_or rests w d) (slice_index_or shares w k))
    one w d k lt =
        let mine : w < x.limits.workers = omega (arith, count, lt) in
        let below : w < length rests = omega (arith, fed.workers.count, mine) in
        let rested = fed.workers.each w d below in
        let is = resumed w k lt in
        let goes = on x o before more faults in
        record {
          after = record {
            table = subst (λ (l : List Row). IsAfter x.limits (shape_of r.query) l (slice_index_or rests w d).table) (sym (taken-on r s goes w)) rested.table;
            shares = record {
              worker = ap (λ (c : SharesSeen). c.worker) is;
              picks =
                  ap (λ (c : SharesSeen). c.picks) is
                  ∙ get_or-map (λ (c : PausedWorker). c.picks) rests w d 0 below
                  ∙ rested.picks
                  ∙ sym (picks-on r s goes w (length before) (omega arith));
              events = λ p here. ap (λ (c : SharesSeen). share_of c p) is ∙ book-events w p e mine here;
              faults = ap (λ (c : SharesSeen). c.faults) is ∙ ap (λ n. replicate n 0) fed.partitions.count;
            };
          };
          turns = rested.turns;
          at_work = refl;
          unstopped = refl;
        }

    -- so all of them are
    pub resumed-ready : StandReady s (length before) rests shares
    resumed-ready w d k lt = one w d k lt

-- ---- jobs of workers

-- the job of each
pub jobs-at : (rests : List PausedWorker) (shares : List SharesSeen) (k : ℕ) (d : JobSeen) (a : PausedWorker) (b : SharesSeen) → length rests ≡ length shares → k < length shares
    → slice_index_or (jobs_of rests shares) k d ≡ job_of (slice_index_or rests k a, slice_index_or shares k b)
jobs-at [] [] k d a b same lt = absurd (omega (arith, lt))
jobs-at [] (x ∷ shares) k d a b same lt = absurd (omega (arith, same))
jobs-at (r ∷ rests) [] k d a b same lt = absurd (omega (arith, same))
jobs-at (r ∷ rests) (x ∷ shares) zero d a b same lt = refl
jobs-at (r ∷ rests) (x ∷ shares) (suc k) d a b same lt = jobs-at rests shares k d a b (omega (arith, same)) (omega (arith, lt))

-- there are as many as shares
pub jobs-long : (rests : List PausedWorker) (shares : List SharesSeen) → length rests ≡ length shares → length (jobs_of rests shares) ≡ length shares
jobs-long [] [] same = refl
jobs-long [] (x ∷ shares) same = absurd (omega (arith, same))
jobs-long (r ∷ rests) [] same = absurd (omega (arith, same))
jobs-long (r ∷ rests) (x ∷ shares) same = omega (arith, jobs-long rests shares (omega (arith, same)))

-- workers that stand ready are ready in their jobs
pub jobs-ready : (r : Run) (n : ℕ) (rests : List PausedWorker) (shares : List SharesSeen) (jobs : List JobSeen) → jobs ≡ jobs_of rests shares → length rests ≡ length shares
    → StandReady r n rests shares → (k : ℕ) (d : JobSeen) → k < length jobs → IsReady r k n (slice_index_or jobs k d).worker
jobs-ready r n rests shares jobs is same ready k d lt =
    let long : length jobs ≡ length shares = ap (λ (l : List JobSeen). length l) is ∙ jobs-long rests shares same in
    let here : k < length shares = omega (arith, lt, long) in
    let at : slice_index_or jobs k d ≡ job_of (slice_index_or rests k (paused_of d), slice_index_or shares k (shares_of d)) =
    ap (λ (l : List JobSeen). slice_index_or l k d) is ∙ jobs-at rests shares k d (paused_of d) (shares_of d) same here in
    subst (λ (j : JobSeen). IsReady r k n j.worker) (sym at) (ready k (paused_of d) (shares_of d) here)
