-- How a run that was fed ends.
use Rattle.std.proofs.Common.{◌≡◌, ◌∙◌, ◌<◌, ◌^◌, ◌≤◌, ℕ, true, false, List, [], ◌++◌, length, refl, sym, ap, subst, arith}
use Rattle.std.specs.List.{All, slice_index_or, sum_by}
use Rattle.std.proofs.lemmas.List.{append-nil, get_or-map, length-map}
use Rattle.pipe_columns.specs.declared.data_chunk.DataChunk.{DataChunk}
use Rattle.pipe_columns.specs.Causes.{Rose}
use Rattle.pipe_columns.specs.Frame.{FrameData}
use Rattle.pipe_aggs.specs.QueryTrees.{query_tree}
use Rattle.pipe_model.specs.Answer.{answer}
use Rattle.pipe_model.specs.Rows.{AreChunksOf}
use Rattle.pipe_plan.specs.declared.event.PartitionEvent.{PartitionEvent}
use Rattle.pipe_plan.specs.Run.{Run, StoreSeen, tells}
use Rattle.pipe_global.specs.declared.batch_error.BatchError.{BatchError}
use Rattle.pipe_global.specs.declared.batch_error.BatchError.TheVariants as batch_error
use Rattle.pipe_global.specs.Partition.{IsRunnable, no_store, PartitionSeen}
use Rattle.pipe_workers.specs.declared.paused.PausedWorker.{PausedWorker}
use Rattle.pipe_run.specs.declared.round.RoundStop.{RoundStop}
use Rattle.pipe_run.specs.declared.round.RoundStop.TheVariants as stop
use Rattle.pipe_run.specs.Answered.{HaveReplayedFrames, HaveWholeFrames, IsAnswered}
use Rattle.pipe_asked.specs.Left.{AreSamePartitions, CountOn, RoseFrom}
use Rattle.pipe_run.specs.Ending.{IsAnswerCause}
use Rattle.pipe_run.specs.Failing.{IsFirstFailed, NoneFailed}
use Rattle.pipe_run.specs.Finish.{HasPutUntold, IsFinishCause}
use Rattle.pipe_run.specs.Fed.{AllStand, AreWholePartitions, FedSeen, HaveEnded, HaveKept, IsFedRun}
use Rattle.pipe_run.specs.Setting.{run_over, Setting}
use Rattle.pipe_run.specs.Stops.{error_of, error_of_groups}
use Rattle.pipe_run.proofs.Answering.{few-arrived, kept-same, replayed-frames, run-answered, some-partition, stores_of, whole-frames}
use Rattle.pipe_run.proofs.Counted.{calm-stores, first-stores}
use Rattle.pipe_run.proofs.Feeding.{whole-stand}
use Rattle.pipe_run.proofs.Leaving.{stand-uncounted}
use Rattle.pipe_run.proofs.Taking.{faults_of, same, take-stand}
use Rattle.pipe_run.proofs.Whole.{journals_of}

-- ---- a run between its calls

module _ (x : Setting) (taken : List DataChunk) (journals : List (List PartitionEvent)) (seen : List StoreSeen) (s : FedSeen)
    (view : record { setting = x; chunks = taken; journals = journals; stores = seen } ≡ s) (stores : List StoreSeen)
    (closed : List PartitionSeen) (rests : List PausedWorker) (rows : ℕ) (run : IsFedRun x taken closed rests rows) where
  -- the run, open and closed
  abbrev open_run : Run
  open_run = run_over x true taken

  abbrev shut_run : Run
  shut_run = run_over x false taken

  -- given up, it leaves the frames of its journals
  pub frames-given_up : stores ≡ stores_of closed → journals ≡ journals_of closed → HaveReplayedFrames (run_over s.setting true s.chunks) s.journals stores
  frames-given_up is named = subst (λ (s : FedSeen). HaveReplayedFrames (run_over s.setting true s.chunks) s.journals stores) view
      (subst (λ l. HaveReplayedFrames open_run l stores) (sym named) (subst (HaveReplayedFrames open_run (journals_of closed)) (sym is)
      (replayed-frames open_run closed closed run.fed.run.limits.partitions (whole-stand open_run closed run.fed.partitions) (kept-same closed))))

  -- it can be made where no chunk may follow
  pub runnable-shut : IsRunnable shut_run
  runnable-shut =
      let is = run.fed.run in
      record { limits = is.limits; query = is.query; typed = is.typed; few = is.few; stores = is.stores; former = is.former }

  -- no further chunk is no chunk more
  pub none-more : (P : List DataChunk → Type 0) → P (taken ++ []) → P taken
  none-more P is = subst P (append-nil taken) is

  pub chunks-none : AreChunksOf (query_tree x.query) (taken ++ [])
  chunks-none = subst (AreChunksOf (query_tree x.query)) (sym (append-nil taken)) run.chunks_are

  left-by : (after : List PartitionSeen) → AllStand shut_run after → stores ≡ stores_of after → HaveWholeFrames (run_over s.setting false s.chunks) stores
  left-by after stand is = subst (λ (s : FedSeen). HaveWholeFrames (run_over s.setting false s.chunks) stores) view
      (subst (HaveWholeFrames shut_run) (sym is) (whole-frames shut_run after after run.fed.run.limits.partitions run.fed.run.limits.buffer stand (kept-same after)))

  -- refused before its last round
  pub early-left : stores ≡ stores_of closed → HaveWholeFrames (run_over s.setting false s.chunks) stores
  early-left is = left-by closed
      (none-more (λ l. AllStand (run_over x false l) closed) (stand-uncounted (run_over x false (taken ++ [])) (faults_of closed) (same x false taken [] closed rests run.fed) closed (take-stand x false taken [] closed rests run.fed)))
      is

  -- the first whose count rose is the first that failed
  first-of : (after : List PartitionSeen) → length after ≡ length closed → stores ≡ stores_of after → seen ≡ stores_of closed → (p : ℕ) → RoseFrom closed p after → IsFirstFailed s.stores stores p
  first-of after long is found p rose = subst (λ (s : FedSeen). IsFirstFailed s.stores stores p) view
      (subst (λ (l : List StoreSeen). IsFirstFailed l stores p) (sym found)
      (subst (λ (l : List StoreSeen). IsFirstFailed (stores_of closed) l p) (sym is) (first-stores closed after long p rose)))

  -- refused in its last round
  pub round-left : (after : List PartitionSeen) → AllStand (run_over x false (taken ++ [])) after → stores ≡ stores_of after → HaveWholeFrames (run_over s.setting false s.chunks) stores
  round-left after stand is = left-by after (none-more (λ l. AllStand (run_over x false l) after) stand) is

  pub round-cause : (after : List PartitionSeen) (e : RoundStop) → AllStand (run_over x false (taken ++ [])) after → stores ≡ stores_of after → seen ≡ stores_of closed
      → ((p : ℕ) → e ≡ stop.Store p → RoseFrom closed p after) → IsFinishCause s stores (error_of e)
  round-cause after stop.Memory stand is found rose = tt
  round-cause after (stop.Store p) stand is found rose = first-of after (stand.count ∙ sym run.fed.partitions.count) is found p (rose p refl)

  -- refused as its partitions were to give their groups, and answered
  module _ (ended after : List PartitionSeen) (whole : AreWholePartitions (run_over x false (taken ++ [])) ended) (kept : AreSamePartitions ended after) where
    whole-shut : AreWholePartitions shut_run ended
    whole-shut = none-more (λ l. AreWholePartitions (run_over x false l) ended) whole

    pub groups-left : stores ≡ stores_of after → HaveWholeFrames (run_over s.setting false s.chunks) stores
    groups-left is = subst (λ (s : FedSeen). HaveWholeFrames (run_over s.setting false s.chunks) stores) view
        (subst (HaveWholeFrames shut_run) (sym is) (whole-frames shut_run ended after run.fed.run.limits.partitions run.fed.run.limits.buffer (whole-stand shut_run ended whole-shut) kept))

    pub groups-cause : (e : BatchError) → stores ≡ stores_of after → seen ≡ stores_of closed → CountOn closed ended → IsAnswerCause shut_run ended after e → IsFinishCause s stores (error_of_groups e)
    groups-cause batch_error.Memory is found on cause = tt
    groups-cause (batch_error.Store p) is found on cause =
        let long : length ended ≡ length closed = whole.count ∙ sym run.fed.partitions.count in
        let lt : p < length closed = omega (arith, cause.exists, long) in
        first-of after (kept.count ∙ long) is found p (record {
          exists = lt;
          rose = λ d. subst (λ n. Rose n (slice_index_or after p d).store.faults) (on p d lt) (cause.rose d);
          least = λ k d less. cause.least k d less ∙ on k d (omega (arith, less, lt));
        })
    groups-cause (batch_error.Damaged p n) is found on cause =
        let d = some-partition shut_run ended run.fed.run.limits.partitions (whole-stand shut_run ended whole-shut) in
        let lt : p < length after = omega (arith, cause.0, kept.count) in
        subst (λ (s : FedSeen). (p < length stores) × HasPutUntold (slice_index_or s.setting.stores p no_store) (slice_index_or stores p no_store) n) view (
          omega (arith, lt, ap (λ (l : List StoreSeen). length l) is, length-map after (λ (c : PartitionSeen). c.store)),
          subst (λ (l : List StoreSeen). HasPutUntold (slice_index_or x.stores p no_store) (slice_index_or l p no_store) n) (sym is)
              (subst (λ (y : StoreSeen). HasPutUntold (slice_index_or x.stores p no_store) y n) (sym (get_or-map (λ (c : PartitionSeen). c.store) after p d no_store lt)) (record { untold = cause.1; first = cause.2; last = cause.3 d })),
        )

    -- answered, no store failed
    pub unfailed-shut : stores ≡ stores_of after → seen ≡ stores_of closed → CountOn closed ended → CountOn ended after → NoneFailed s.stores stores
    unfailed-shut is found on more =
        let long : length ended ≡ length closed = whole.count ∙ sym run.fed.partitions.count in
        subst (λ (s : FedSeen). NoneFailed s.stores stores) view
        (subst (λ l. NoneFailed l stores) (sym found) (subst (NoneFailed (stores_of closed)) (sym is)
        (calm-stores closed after (kept.count ∙ long) (λ p d lt. more p d (omega (arith, lt, long)) ∙ on p d lt))))

    pub few-shut : sum_by (λ (s : PartitionSeen). s.arrived) after < 2 ^ 64
    few-shut = omega (arith, few-arrived shut_run ended after runnable-shut refl whole-shut kept)

    pub answered-shut : (frame : FrameData) (listed : List (List PartitionEvent)) (n : ℕ) → stores ≡ stores_of after → listed ≡ journals_of after → n ≡ sum_by (λ (s : PartitionSeen). s.arrived) after
        → (All (λ s. tells s ≡ true) x.stores → frame ≡ answer taken (query_tree x.query) x.limits.partitions)
        → IsAnswered (run_over s.setting false s.chunks) (record { frame = frame; journals = listed; overflow = n }) stores
    answered-shut frame listed n is named count told = subst (λ (s : FedSeen). IsAnswered (run_over s.setting false s.chunks) (record { frame = frame; journals = listed; overflow = n }) stores) view
        (subst (λ l. IsAnswered shut_run (record { frame = frame; journals = l; overflow = n }) stores) (sym named)
        (subst (IsAnswered shut_run (record { frame = frame; journals = journals_of after; overflow = n })) (sym is)
        (run-answered shut_run ended after frame n runnable-shut refl whole-shut kept count told)))

    -- what the workers kept
    pub kept-shut : (left : List PausedWorker) → HaveEnded (run_over x false (taken ++ [])) left → HaveKept shut_run left
    kept-shut left all = none-more (λ l. HaveKept (run_over x false l) left) (all.closed_run refl)
