-- Chunks that are fed behind others, and what a run that was refused leaves of its stores.
use Rattle.std.proofs.Common.{◌≡◌, ◌∙◌, ◌+◌, ◌^◌, ◌<◌, ℕ, true, List, [], ◌∷◌, ◌++◌, length, map, refl, sym, ap, subst, arith, take}
use Rattle.std.specs.Prelude.{slice_get}
use Rattle.std.specs.List.{All, slice_index_or}
use Rattle.std.proofs.lemmas.List.{get_or-map, length-map}
use Rattle.std.proofs.lemmas.List.Elements.{All-append}
use Rattle.std.proofs.lemmas.List.Sums.{sum_by-append}
use Rattle.pipe_columns.specs.declared.data_chunk.DataChunk.{DataChunk}
use Rattle.pipe_columns.specs.declared.schema.Field.{Field}
use Rattle.pipe_columns.specs.Frame.{FitsSchema, HoldsTypes}
use Rattle.pipe_aggs.specs.CheckedQuery.{IsSound}
use Rattle.pipe_aggs.specs.QueryTrees.{query_tree}
use Rattle.pipe_model.specs.Query.{QueryTree}
use Rattle.pipe_model.specs.Rows.{AreChunksOf, total_height}
use Rattle.pipe_plan.specs.Replay.{replay}
use Rattle.pipe_plan.specs.Run.{Run, StoreSeen}
use Rattle.pipe_plan.proofs.Naming.{frames-apart}
use Rattle.pipe_global.specs.Partition.{IsReplayed, no_store, PartitionSeen}
use Rattle.pipe_workers.specs.declared.paused.PausedWorker.{PausedWorker}
use Rattle.pipe_workers.proofs.Runs.{takes-turns}
use Rattle.pipe_run.specs.Answered.{HasWholeFrames, HaveWholeFrames}
use Rattle.pipe_run.specs.Fed.{AllStand, AreWholePartitions, HaveEnded, IsFedRun}
use Rattle.pipe_run.specs.Refusals.{AllHaveFields, IsFirstMisfit}
use Rattle.pipe_run.specs.Setting.{run_over, Setting}

-- ---- chunks behind others

pub height-append : (xs ys : List DataChunk) → total_height (xs ++ ys) ≡ total_height xs + total_height ys
height-append xs ys = sum_by-append (λ (c : DataChunk). c.frame.height) xs ys

-- those that fit behind others that do
pub chunks-more : (q : QueryTree) (taken more : List DataChunk) → AreChunksOf q taken → AllHaveFields q.schema more → All (λ (c : DataChunk). HoldsTypes c.frame) more
    → total_height (taken ++ more) < 2 ^ 32 → length (taken ++ more) < 2 ^ 32 → AreChunksOf q (taken ++ more)
chunks-more q taken more are fit typed low few = record {
  columns = All-append (λ (c : DataChunk). FitsSchema q.schema c.frame) taken more are.columns fit;
  typed = All-append (λ (c : DataChunk). HoldsTypes c.frame) taken more are.typed typed;
  rows = low;
  number = few;
}

-- the first that doesn't fit is as much further behind
pub misfit-behind : (fields : List Field) (taken more : List DataChunk) (i : ℕ) → AllHaveFields fields taken → IsFirstMisfit fields more i → IsFirstMisfit fields (taken ++ more) (length taken + i)
misfit-behind fields taken more i fit is = record {
  chunk = is.chunk;
  at = behind taken more i ∙ is.at;
  before = subst (AllHaveFields fields) (sym (front taken more i)) (All-append (λ (c : DataChunk). FitsSchema fields c.frame) taken (take i more) fit is.before);
  misfit = is.misfit;
} where
  behind : (xs ys : List DataChunk) (k : ℕ) → slice_get (xs ++ ys) (length xs + k) ≡ slice_get ys k
  behind xs ys k = Rattle.pipe_plan.proofs.NextEvent.get-behind xs ys k

  front : (xs ys : List DataChunk) (k : ℕ) → take (length xs + k) (xs ++ ys) ≡ xs ++ take k ys
  front xs ys k = Rattle.std.proofs.Math.Seq.take-append-add xs ys k

-- ---- a run that was fed

pub fed-more : (x : Setting) (chunks : List DataChunk) (closed new : List PartitionSeen) (rests left : List PausedWorker) (before : List DataChunk) (rows all : ℕ)
    → IsSound x.query → IsFedRun x before closed rests rows → AreChunksOf (query_tree x.query) chunks → all ≡ total_height chunks
    → AreWholePartitions (run_over x true chunks) new → HaveEnded (run_over x true chunks) left → IsFedRun x chunks new left all
fed-more x chunks closed new rests left before rows all sound run are high whole ended = record {
  generic = run.generic;
  few = run.few;
  chunks_are = are;
  fed = record {
    run = (takes-turns x.query (run_over x true chunks) sound run.fed.run.query refl run.fed.run.limits run.generic are run.fed.run.stores run.fed.run.former).runnable;
    partitions = whole;
    workers = ended.open_run refl;
  };
  rows_are = high;
}

-- ---- the stores of partitions that stand for a run

pub stands-frames : (r : Run) (p : ℕ) (s : PartitionSeen) → 0 < r.limits.buffer_size → IsReplayed r p s → HasWholeFrames r p s.store
stands-frames r p s some is = record {
  frames = (replay r p s.journal).frames;
  pieces = frames-apart r p s.journal some is.journal;
  has = record { told = is.replayed.told; held = is.replayed.held; sure = is.sure; path = is.path };
}

pub stand-frames : (r : Run) (closed : List PartitionSeen) (stores : List StoreSeen) → 0 < r.limits.buffer_size → stores ≡ map (λ c. c.store) closed → AllStand r closed → HaveWholeFrames r stores
stand-frames r closed stores some is all = subst (HaveWholeFrames r) (sym is) (by closed refl) where
  by : (ps : List PartitionSeen) → closed ≡ ps → HaveWholeFrames r (map (λ c. c.store) closed)
  by ps e = record {
    count = length-map closed (λ (c : PartitionSeen). c.store) ∙ all.count;
    each = λ p lt. at p ps e lt;
  } where
    at : (p : ℕ) (qs : List PartitionSeen) → closed ≡ qs → p < r.limits.partitions → HasWholeFrames r p (slice_index_or (map (λ c. c.store) closed) p no_store)
    at p [] f lt = absurd (omega (arith, lt, all.count, ap (λ (l : List PartitionSeen). length l) f))
    at p (d ∷ qs) f lt =
        let below : p < length closed = omega (arith, lt, all.count) in
        subst (HasWholeFrames r p) (sym (get_or-map (λ (c : PartitionSeen). c.store) closed p d no_store below)) (stands-frames r p (slice_index_or closed p d) some (all.each p d below))

-- partitions with whole plans stand for the run
pub whole-stand : (r : Run) (closed : List PartitionSeen) → AreWholePartitions r closed → AllStand r closed
whole-stand r closed whole = record { count = whole.count; each = λ p d lt. (whole.each p d lt).replayed }
