-- A run before its first chunk.
use Rattle.std.proofs.Common.{◌≡◌, ◌∙◌, ◌^◌, ◌<◌, ◌≤◌, ℕ, zero, suc, Bool, true, false, List, [], ◌∷◌, length, map, refl, sym, ap, subst, arith, ◌||◌}
use Rattle.std.specs.Prelude.{replicate}
use Rattle.std.specs.List.{All, slice_index_or, sum}
use Rattle.std.proofs.lemmas.Bool.{false≢true}
use Rattle.std.proofs.lemmas.List.{get_or-map, get_or-replicate, length-map, length-replicate}
use Rattle.std.proofs.lemmas.List.Elements.{All-nil}
use Rattle.std.proofs.lemmas.List.Sums.{sum_by-cons}
use Rattle.pipe_columns.specs.declared.data_chunk.DataChunk.{DataChunk}
use Rattle.pipe_columns.specs.Frame.{FitsSchema, HoldsTypes}
use Rattle.pipe_aggs.specs.CheckedQuery.{input_types}
use Rattle.pipe_aggs.specs.QueryTrees.{query_tree}
use Rattle.pipe_groups.specs.Shape.{shape_of}
use Rattle.pipe_model.specs.Groupable.{IsGroupable}
use Rattle.pipe_model.specs.Output.{key_types}
use Rattle.pipe_model.specs.Query.{QueryTree}
use Rattle.pipe_model.specs.Rows.{AreChunksOf}
use Rattle.pipe_plan.specs.declared.event.PartitionEvent.{PartitionEvent}
use Rattle.pipe_plan.specs.Plan.{plan}
use Rattle.pipe_plan.specs.Run.{AreLimits, is_generic, Run, StoreSeen}
use Rattle.pipe_plan.proofs.Fronts.{plan-open}
use Rattle.pipe_spill.specs.SpillRow.{HasValues}
use Rattle.pipe_global.specs.Closed.{all_events, all_faults, all_shares, AreClosed, AreFailed, has_failed}
use Rattle.pipe_global.specs.Opening.{AreUnused}
use Rattle.pipe_global.specs.Partition.{IsRunnable, no_store, PartitionSeen}
use Rattle.pipe_global.specs.Shares.{share_of, SharesSeen}
use Rattle.pipe_workers.specs.declared.paused.PausedWorker.{PausedWorker}
use Rattle.pipe_run.specs.Fed.{AreCounted, AreRested, AreWholePartitions, IsFedRun, IsUnused}
use Rattle.pipe_run.specs.Failing.{NoneFailed}
use Rattle.pipe_run.specs.Rounds.{AreWholeShares}
use Rattle.pipe_run.specs.Setting.{run_over, Setting}
use Rattle.pipe_run.proofs.Ended.{all-partitions}
use Rattle.pipe_run.proofs.Whole.{sum_by-positions}
use Rattle.pipe_plan.proofs.Adding.{sum_to-same, sum_to-zero}

-- it can be made
pub runnable-none : (x : Setting) → AreLimits x.limits → IsGroupable (query_tree x.query) → length x.stores ≡ x.limits.partitions → All (λ (s : StoreSeen). s.held < 2 ^ 63) x.stores → IsRunnable (run_over x true [])
runnable-none x limits groupable count former = record {
  limits = limits;
  query = groupable;
  typed = All-nil (HasValues (key_types (query_tree x.query)) (input_types (query_tree x.query)));
  few = omega arith;
  stores = count;
  former = former;
}

-- its plans have no event
plan-none : (x : Setting) (w p : ℕ) → is_generic x.limits.sink ≡ true → length (plan (run_over x true []) w p) ≡ 0
plan-none x w p generic = ap (λ (l : List PartitionEvent). length l) (plan-open (run_over x true []) w p refl generic)

module _ (x : Setting) (generic : is_generic x.limits.sink ≡ true) (shares : List SharesSeen) (unused : AreUnused x.limits.partitions shares) where
  -- so shares that count none are whole
  shares-none : AreWholeShares (run_over x true []) shares
  shares-none w d lt =
      let is = unused w d lt in (
        ap (λ (s : SharesSeen). length s.events) is ∙ length-replicate {A = ℕ} x.limits.partitions 0,
        λ p here. ap (λ (s : SharesSeen). share_of s p) is ∙ get_or-replicate {A = ℕ} x.limits.partitions p 0 0 here ∙ sym (plan-none x w p generic),
      )

  -- and no put was refused
  faults-none : (d : SharesSeen) → all_faults shares ≡ 0
  faults-none d =
      sum_by-positions (λ (s : SharesSeen). sum s.faults) d shares
      ∙ sum_to-same (length shares) (λ w. sum (slice_index_or shares w d).faults) (λ w. 0) (λ w lt. ap (λ (s : SharesSeen). sum s.faults) (unused w d lt) ∙ sum-zeros x.limits.partitions)
      ∙ sum_to-zero (length shares)
    where
      sum-zeros : (n : ℕ) → sum (replicate n 0) ≡ 0
      sum-zeros zero = refl
      sum-zeros (suc n) = omega (arith, sum_by-cons (λ (k : ℕ). k) 0 (replicate n 0), sum-zeros n)

-- no partition is failed where none has
none-failed : (partitions : List PartitionSeen) → has_failed partitions ≡ false → (p : ℕ) (d : PartitionSeen) → p < length partitions → (slice_index_or partitions p d).failed ≡ false
none-failed [] none p d lt = absurd (omega (arith, lt))
none-failed (s ∷ partitions) none p d lt = by s.failed refl none p lt (none-failed partitions) where
  by : (b : Bool) → s.failed ≡ b → b || has_failed partitions ≡ false → (p : ℕ) → p < length (s ∷ partitions)
      → (has_failed partitions ≡ false → (p : ℕ) (d : PartitionSeen) → p < length partitions → (slice_index_or partitions p d).failed ≡ false) → (slice_index_or (s ∷ partitions) p d).failed ≡ false
  by true e f p lt next = absurd (false≢true (sym f))
  by false e f zero lt next = e
  by false e f (suc p) lt next = next f p d (omega (arith, lt))

-- the partitions that were opened and closed again hold the plans, which are empty
pub opened-whole : (x : Setting) (partitions : List PartitionSeen) (shares : List SharesSeen) → AreLimits x.limits → is_generic x.limits.sink ≡ true → AreUnused x.limits.partitions shares
    → length partitions ≡ x.limits.partitions → length shares ≡ x.limits.workers → AreClosed (run_over x true []) partitions → all_events partitions ≡ all_shares shares → AreFailed partitions (all_faults shares)
    → AreWholePartitions (run_over x true []) partitions
opened-whole x partitions shares limits generic unused count workers closed same failed =
    all-partitions (run_over x true []) partitions shares limits count workers closed same (shares-none x generic shares unused) (none-failed partitions (by (has_failed partitions) refl))
  where
    first : (ss : List SharesSeen) → shares ≡ ss → all_faults shares ≡ 0
    first [] e = absurd (omega (arith, limits.workers, workers, ap (λ (l : List SharesSeen). length l) e))
    first (s ∷ ss) e = faults-none x generic shares unused s

    by : (b : Bool) → has_failed partitions ≡ b → has_failed partitions ≡ false
    by true e = absurd (omega (arith, failed.0 e, first shares refl))
    by false e = e

-- the same of a run that is named
pub opened-as : (x : Setting) (r : Run) → r ≡ run_over x true [] → (partitions : List PartitionSeen) (shares : List SharesSeen) → AreLimits x.limits → is_generic x.limits.sink ≡ true
    → AreUnused r.limits.partitions shares → length partitions ≡ r.limits.partitions → length shares ≡ r.limits.workers → AreClosed r partitions → all_events partitions ≡ all_shares shares
    → AreFailed partitions (all_faults shares) → AreWholePartitions r partitions
opened-as x r e partitions shares limits generic =
    subst (λ (s : Run). AreUnused s.limits.partitions shares → length partitions ≡ s.limits.partitions → length shares ≡ s.limits.workers → AreClosed s partitions → all_events partitions ≡ all_shares shares
    → AreFailed partitions (all_faults shares) → AreWholePartitions s partitions) (sym e)
    (λ unused count workers closed same failed. opened-whole x partitions shares limits generic unused count workers closed same failed)

-- workers that took no chunk rest
pub unused-rested : (x : Setting) (rests : List PausedWorker) → length rests ≡ x.limits.workers → All (IsUnused x.limits (shape_of (query_tree x.query))) rests → AreRested (run_over x true []) rests
unused-rested x rests count all = record {
  count = count;
  each = λ w d lt. let one = all w d lt in record { table = one.table; turns = one.turns; picks = one.picks };
}

-- no chunk can be fed
pub no-chunks : (q : QueryTree) → AreChunksOf q []
no-chunks q = record {
  columns = All-nil (λ (c : DataChunk). FitsSchema q.schema c.frame);
  typed = All-nil (λ (c : DataChunk). HoldsTypes c.frame);
  rows = omega arith;
  number = omega arith;
}

-- what a run keeps before its first chunk
pub begun-fed : (x : Setting) (closed : List PartitionSeen) (rests : List PausedWorker) → is_generic x.limits.sink ≡ true → x.limits.partitions < 2 ^ 32 → AreLimits x.limits → IsGroupable (query_tree x.query) → length x.stores ≡ x.limits.partitions
    → All (λ (s : StoreSeen). s.held < 2 ^ 63) x.stores → AreWholePartitions (run_over x true []) closed → length rests ≡ x.limits.workers → All (IsUnused x.limits (shape_of (query_tree x.query))) rests → IsFedRun x [] closed rests 0
begun-fed x closed rests generic few limits groupable stores former whole count unused = record {
  generic = generic;
  few = few;
  chunks_are = no-chunks (query_tree x.query);
  fed = record { run = runnable-none x limits groupable stores former; partitions = whole; workers = unused-rested x rests count unused };
  rows_are = refl;
}

-- no store has failed
pub none-before : (x : Setting) (closed : List PartitionSeen) → length closed ≡ length x.stores → AreCounted (run_over x true []) closed → NoneFailed x.stores (map (λ c. c.store) closed)
none-before x closed long counted = record { count = length-map closed (λ (c : PartitionSeen). c.store) ∙ long; each = by closed refl } where
  by : (ps : List PartitionSeen) → closed ≡ ps → (p : ℕ) → p < length x.stores → (slice_index_or (map (λ c. c.store) closed) p no_store).faults ≡ (slice_index_or x.stores p no_store).faults
  by [] e p lt = absurd (omega (arith, lt, long, ap (λ (l : List PartitionSeen). length l) e))
  by (d ∷ ps) e p lt =
      let here : p < length closed = omega (arith, lt, long) in
      ap (λ (b : StoreSeen). b.faults) (get_or-map (λ (c : PartitionSeen). c.store) closed p d no_store here) ∙ counted p d here
