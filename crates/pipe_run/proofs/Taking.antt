-- A run takes the partitions and the workers of the run before over.
use Rattle.std.proofs.Common.{◌≡◌, ◌∙◌, ◌<◌, ℕ, Bool, true, List, [], ◌∷◌, ◌++◌, length, map, refl, sym, ap, arith}
use Rattle.std.specs.List.{slice_index_or}
use Rattle.std.proofs.lemmas.List.{get_or-map, length-map}
use Rattle.pipe_columns.specs.declared.data_chunk.DataChunk.{DataChunk}
use Rattle.pipe_aggs.specs.CheckedQuery.{IsSound}
use Rattle.pipe_aggs.specs.QueryTrees.{query_tree}
use Rattle.pipe_model.specs.Rows.{AreChunksOf}
use Rattle.pipe_plan.specs.Run.{is_generic, Run}
use Rattle.pipe_global.specs.Partition.{IsRunnable, PartitionSeen}
use Rattle.pipe_global.specs.Resuming.{AreResumed, AreTakenOver}
use Rattle.pipe_global.specs.Shares.{SharesSeen}
use Rattle.pipe_workers.specs.declared.paused.PausedWorker.{PausedWorker}
use Rattle.pipe_workers.specs.Rounds.{IsRoundOf}
use Rattle.pipe_workers.specs.Workers.{TakesTurns}
use Rattle.pipe_run.specs.Fed.{AllStand, AreCounted, IsFed}
use Rattle.pipe_run.specs.Rounds.{StandReady}
use Rattle.pipe_run.specs.Setting.{run_over, Setting}
use Rattle.pipe_run.proofs.Carrying.{carried, faults-at, onto}
use Rattle.pipe_run.proofs.Ready.{resumed-ready}
use Rattle.pipe_run.proofs.Running.{runnable-on, turns-on}

-- how often the stores of partitions failed
abbrev pub faults_of : List PartitionSeen → List ℕ
faults_of closed = map (λ c. c.store.faults) closed

module _ (x : Setting) (o : Bool) (before more : List DataChunk) (closed : List PartitionSeen) (rests : List PausedWorker) (fed : IsFed (run_over x true before) closed rests) where
  abbrev pub run : Run
  run = onto x o before more (faults_of closed)

  pub same : length (faults_of closed) ≡ length x.stores
  same = length-map closed (λ (c : PartitionSeen). c.store.faults) ∙ fed.partitions.count ∙ sym fed.run.stores

  pub take-over : AreTakenOver run closed
  take-over p d lt =
      let is = fed.partitions.each p d lt in
      let here : p < length x.stores = omega (arith, lt, fed.partitions.count, fed.run.stores) in
      record {
        replayed = carried x o before more (faults_of closed) p (slice_index_or closed p d) fed.run.limits.buffer same is.replayed;
        sound = is.sound;
        faults = sym (faults-at x.stores (faults_of closed) p same here ∙ get_or-map (λ (c : PartitionSeen). c.store.faults) closed p d 0 lt);
      }

  -- and no store has failed
  pub take-counted : AreCounted run closed
  take-counted p d lt = (take-over p d lt).faults

  -- the partitions stand for the run
  pub take-stand : AllStand run closed
  take-stand = record { count = fed.partitions.count; each = λ p d lt. (take-over p d lt).replayed }

  pub take-runnable : IsSound x.query → AreChunksOf (query_tree x.query) (before ++ more) → IsRunnable run
  take-runnable sound chunks = runnable-on x o before more (faults_of closed) same fed.run sound chunks

  pub take-turns : is_generic x.limits.sink ≡ true → IsSound x.query → AreChunksOf (query_tree x.query) (before ++ more) → TakesTurns run
  take-turns generic sound chunks = turns-on x o before more (faults_of closed) same fed.run sound chunks generic

  pub take-round : (n : ℕ) → n ≡ length before → IsRoundOf run (record { first = n; chunks = more; actions = x.actions; rules = x.rules; is_open = o })
  take-round n is = record { taken = before; chunks = refl; first = is; actions = refl; rules = refl; is_open = refl }

  pub take-ready : (shares : List SharesSeen) → is_generic x.limits.sink ≡ true → length shares ≡ x.limits.workers → AreResumed closed (map (λ (c : PausedWorker). c.picks) rests) shares → StandReady run (length before) rests shares
  take-ready shares generic count resumed = by closed refl where
    by : (ps : List PartitionSeen) → closed ≡ ps → StandReady run (length before) rests shares
    by [] none = absurd (omega (arith, fed.run.limits.partitions, fed.partitions.count, ap (λ (l : List PartitionSeen). length l) none))
    by (p ∷ ps) is = resumed-ready x o before more (faults_of closed) closed rests generic fed shares p count resumed
