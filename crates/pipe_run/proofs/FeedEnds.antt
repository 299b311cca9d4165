-- How a feed that is refused ends.
use Rattle.std.proofs.Common.{◌≡◌, ◌∙◌, ◌<◌, ◌≤◌, ℕ, true, List, [], ◌∷◌, ◌++◌, length, map, refl, sym, ap, subst, arith}
use Rattle.std.specs.List.{slice_index_or}
use Rattle.std.proofs.lemmas.List.{get_or-map, length-map}
use Rattle.pipe_columns.specs.declared.data_chunk.DataChunk.{DataChunk}
use Rattle.pipe_columns.specs.Causes.{Rose}
use Rattle.pipe_aggs.specs.QueryTrees.{query_tree}
use Rattle.pipe_model.specs.Rows.{AreChunksOf}
use Rattle.pipe_plan.specs.declared.event.PartitionEvent.{PartitionEvent}
use Rattle.pipe_plan.specs.Run.{StoreSeen}
use Rattle.pipe_global.specs.Partition.{no_store, PartitionSeen}
use Rattle.pipe_workers.specs.declared.paused.PausedWorker.{PausedWorker}
use Rattle.pipe_run.specs.declared.error.PipeError.{PipeError}
use Rattle.pipe_run.specs.declared.error.PipeError.TheVariants as error
use Rattle.pipe_run.specs.declared.round.RoundStop.{RoundStop}
use Rattle.pipe_run.specs.declared.round.RoundStop.TheVariants as stop
use Rattle.pipe_run.specs.Answered.{HaveWholeFrames}
use Rattle.pipe_run.specs.Failing.{IsFirstFailed, NoneFailed}
use Rattle.pipe_asked.specs.Left.{CountOn, RoseFrom}
use Rattle.pipe_run.specs.Fed.{AllStand, FedSeen, IsFed, IsFedRun}
use Rattle.pipe_run.specs.Feeding.{all_chunks, chunks_reached, IsBadChunks, IsFeedCause}
use Rattle.pipe_run.specs.Refusals.{AllHaveFields, AreMany, CanFeed, IsFirstMisfit}
use Rattle.pipe_run.specs.Setting.{run_over, Setting}
use Rattle.pipe_run.specs.Stops.{error_of}
use Rattle.pipe_run.proofs.Counted.{calm-same, calm-stores, first-stores}
use Rattle.pipe_run.proofs.Feeding.{stand-frames, whole-stand}
use Rattle.pipe_run.proofs.Leaving.{stand-uncounted}
use Rattle.pipe_run.proofs.Taking.{faults_of, same, take-stand}

-- ---- for its chunks

pub bad-cause : (s : FedSeen) (chunks : List DataChunk) (stores : List StoreSeen) (e : PipeError) → IsBadChunks e
    → ((i : ℕ) → e ≡ error.Schema i → IsFirstMisfit s.setting.query.schema (all_chunks s chunks) i)
    → (e ≡ error.TooLarge → AllHaveFields s.setting.query.schema (all_chunks s chunks) × AreMany (all_chunks s chunks)) → IsFeedCause s chunks stores e
bad-cause s chunks stores (error.Schema i) bad misfit large = misfit i refl
bad-cause s chunks stores error.TooLarge bad misfit large = large refl
bad-cause s chunks stores (error.Store p) bad misfit large = absurd bad
bad-cause s chunks stores error.Memory bad misfit large = absurd bad
bad-cause s chunks stores error.Limits bad misfit large = absurd bad
bad-cause s chunks stores (error.Query f) bad misfit large = absurd bad
bad-cause s chunks stores error.Sink bad misfit large = absurd bad
bad-cause s chunks stores (error.Damaged p n) bad misfit large = absurd bad

pub bad-reached : (s : FedSeen) (chunks : List DataChunk) (e : PipeError) → IsBadChunks e → chunks_reached s chunks e ≡ s.chunks
bad-reached s chunks (error.Schema i) bad = refl
bad-reached s chunks error.TooLarge bad = refl
bad-reached s chunks (error.Store p) bad = absurd bad
bad-reached s chunks error.Memory bad = absurd bad
bad-reached s chunks error.Limits bad = refl
bad-reached s chunks (error.Query f) bad = refl
bad-reached s chunks error.Sink bad = refl
bad-reached s chunks (error.Damaged p n) bad = refl

-- ---- in its round

pub stop-reached : (s : FedSeen) (chunks : List DataChunk) (e : RoundStop) → chunks_reached s chunks (error_of e) ≡ all_chunks s chunks
stop-reached s chunks (stop.Store p) = refl
stop-reached s chunks stop.Memory = refl

-- which was not for its chunks
pub stop-fits : (e : RoundStop) → IsBadChunks (error_of e) → ⊥
stop-fits (stop.Store p) bad = bad
stop-fits stop.Memory bad = bad

pub stop-cause : (s : FedSeen) (chunks : List DataChunk) (stores : List StoreSeen) (e : RoundStop) (closed after : List PartitionSeen) → CanFeed s.setting.query.schema (all_chunks s chunks)
    → stores ≡ map (λ c. c.store) after → s.stores ≡ map (λ c. c.store) closed → length closed ≡ length after
    → ((p : ℕ) → e ≡ stop.Store p → RoseFrom closed p after) → (e ≡ stop.Memory → CountOn closed after) → IsFeedCause s chunks stores (error_of e)
stop-cause s chunks stores stop.Memory closed after can is counts long rose calm =
    subst (λ (l : List StoreSeen). NoneFailed l stores) (sym counts)
    (subst (NoneFailed (map (λ c. c.store) closed)) (sym is) (calm-stores closed after (sym long) (calm refl)))
stop-cause s chunks stores (stop.Store p) closed after can is counts long rose calm = (
  can,
  subst (λ (l : List StoreSeen). IsFirstFailed l stores p) (sym counts)
      (subst (λ (l : List StoreSeen). IsFirstFailed (map (λ c. c.store) closed) l p) (sym is) (first-stores closed after (sym long) p (rose p refl))),
)

-- chunks of a query can be fed
pub can-feed : (x : Setting) (chunks : List DataChunk) → AreChunksOf (query_tree x.query) chunks → CanFeed x.query.schema chunks
can-feed x chunks are = record { fit = are.columns; few = (are.rows, are.number) }

-- ---- before its round

-- the partitions stand for the run over more chunks too
pub stand-longer : (x : Setting) (before more : List DataChunk) (closed : List PartitionSeen) (rests : List PausedWorker) → IsFed (run_over x true before) closed rests → AllStand (run_over x true (before ++ more)) closed
stand-longer x before more closed rests fed =
    stand-uncounted (run_over x true (before ++ more)) (faults_of closed) (same x true before more closed rests fed) closed (take-stand x true before more closed rests fed)

-- ---- what a refused feed leaves of the stores

module _ (x : Setting) (taken : List DataChunk) (journals : List (List PartitionEvent)) (seen : List StoreSeen) (s : FedSeen)
    (view : record { setting = x; chunks = taken; journals = journals; stores = seen } ≡ s) (stores : List StoreSeen)
    (closed : List PartitionSeen) (rests : List PausedWorker) (rows : ℕ) (run : IsFedRun x taken closed rests rows) where
  -- where it is given up between its calls
  pub whole-back : stores ≡ map (λ c. c.store) closed → HaveWholeFrames (run_over s.setting true s.chunks) stores
  whole-back is = subst (λ (s : FedSeen). HaveWholeFrames (run_over s.setting true s.chunks) stores) view
      (stand-frames (run_over x true taken) closed stores run.fed.run.limits.buffer is (whole-stand (run_over x true taken) closed run.fed.partitions))

  some : 0 < x.limits.buffer_size
  some = run.fed.run.limits.buffer

  -- where its chunks can't be fed
  pub bad-back : (chunks : List DataChunk) (e : PipeError) → IsBadChunks e → stores ≡ map (λ c. c.store) closed → HaveWholeFrames (run_over s.setting true (chunks_reached s chunks e)) stores
  bad-back chunks e bad is = subst (λ (s : FedSeen). HaveWholeFrames (run_over s.setting true (chunks_reached s chunks e)) stores) view
      (subst (λ l. HaveWholeFrames (run_over x true l) stores) (sym (bad-reached (record { setting = x; chunks = taken; journals = journals; stores = seen }) chunks e bad))
      (stand-frames (run_over x true taken) closed stores some is (whole-stand (run_over x true taken) closed run.fed.partitions)))

  -- where there is no room for their marks
  pub early-back : (chunks : List DataChunk) → stores ≡ map (λ c. c.store) closed → HaveWholeFrames (run_over s.setting true (chunks_reached s chunks error.Memory)) stores
  early-back chunks is = subst (λ (s : FedSeen). HaveWholeFrames (run_over s.setting true (s.chunks ++ chunks)) stores) view
      (stand-frames (run_over x true (taken ++ chunks)) closed stores some is (stand-longer x taken chunks closed rests run.fed))

  -- where its round stops
  pub stop-back : (chunks : List DataChunk) (after : List PartitionSeen) (e : RoundStop) → stores ≡ map (λ c. c.store) after → AllStand (run_over x true (taken ++ chunks)) after → HaveWholeFrames (run_over s.setting true (chunks_reached s chunks (error_of e))) stores
  stop-back chunks after e is stand = subst (λ (s : FedSeen). HaveWholeFrames (run_over s.setting true (chunks_reached s chunks (error_of e))) stores) view
      (subst (λ l. HaveWholeFrames (run_over x true l) stores) (sym (stop-reached (record { setting = x; chunks = taken; journals = journals; stores = seen }) chunks e))
      (stand-frames (run_over x true (taken ++ chunks)) after stores some is stand))

  -- why its round stopped
  pub stop-cause-of : (chunks : List DataChunk) (after : List PartitionSeen) (e : RoundStop) → AreChunksOf (query_tree x.query) (taken ++ chunks) → stores ≡ map (λ c. c.store) after → seen ≡ map (λ c. c.store) closed
      → AllStand (run_over x true (taken ++ chunks)) after → ((p : ℕ) → e ≡ stop.Store p → RoseFrom closed p after) → (e ≡ stop.Memory → CountOn closed after) → IsFeedCause s chunks stores (error_of e)
  stop-cause-of chunks after e are is counts stand rose calm = subst (λ (s : FedSeen). IsFeedCause s chunks stores (error_of e)) view
      (stop-cause (record { setting = x; chunks = taken; journals = journals; stores = seen }) chunks stores e closed after (can-feed x (taken ++ chunks) are) is counts (run.fed.partitions.count ∙ sym stand.count) rose calm)

  -- what it leaves where it isn't refused: its chunks could be fed
  pub fed-all : (chunks : List DataChunk) → AreChunksOf (query_tree x.query) (taken ++ chunks) → CanFeed s.setting.query.schema (s.chunks ++ chunks)
  fed-all chunks are = subst (λ (s : FedSeen). CanFeed s.setting.query.schema (s.chunks ++ chunks)) view (can-feed x (taken ++ chunks) are)

  -- where its chunks can't be fed, the stores are as they were
  pub bad-untouched : stores ≡ map (λ c. c.store) closed → seen ≡ map (λ c. c.store) closed → stores ≡ s.stores
  bad-untouched is found = is ∙ sym found ∙ ap (λ (s : FedSeen). s.stores) view

  -- no store failed
  pub none-failed : (after : List PartitionSeen) → stores ≡ map (λ c. c.store) after → seen ≡ map (λ c. c.store) closed → length after ≡ length closed → CountOn closed after → NoneFailed s.stores stores
  none-failed after is found long on = subst (λ (s : FedSeen). NoneFailed s.stores stores) view
      (subst (λ l. NoneFailed l stores) (sym found) (subst (NoneFailed (map (λ c. c.store) closed)) (sym is) (calm-stores closed after long on)))

  -- nor where there is no room for marks
  pub early-cause : (chunks : List DataChunk) → stores ≡ map (λ c. c.store) closed → seen ≡ map (λ c. c.store) closed → IsFeedCause s chunks stores error.Memory
  early-cause chunks is found = calm-same s.stores stores (bad-untouched is found)
