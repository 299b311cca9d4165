-- Runs without an event, whose stores are untouched.
use Rattle.std.proofs.Common.{◌≡◌, ◌∙◌, ◌<◌, ℕ, zero, suc, Bool, true, false, List, [], length, map, refl, sym, ap, subst, arith, Option, None, Some}
use Rattle.std.specs.List.{range_with_len, slice_index_or, sum_by}
use Rattle.std.proofs.lemmas.List.{append-nil, length-map, length-replicate}
use Rattle.std.proofs.lemmas.List.Elements.{All-nil}
use Rattle.pipe_columns.specs.declared.data_chunk.DataChunk.{DataChunk}
use Rattle.pipe_columns.specs.Row.{Row}
use Rattle.pipe_aggs.specs.QueryTrees.{query_tree}
use Rattle.pipe_model.specs.Answer.{answer}
use Rattle.pipe_plan.specs.declared.event.PartitionEvent.{PartitionEvent}
use Rattle.pipe_plan.specs.Journals.{IsWhole, journal_of}
use Rattle.pipe_plan.specs.Overflow.{overflow, overflow_count}
use Rattle.pipe_plan.specs.Replay.{replay, worker_of}
use Rattle.pipe_plan.specs.Run.{is_generic, Run, StoreSeen}
use Rattle.pipe_plan.proofs.Adding.{sum_to-range, sum_to-same, sum_to-zero}
use Rattle.pipe_plan.proofs.AllRows.{overflow-typed}
use Rattle.pipe_plan.proofs.NextEvent.{plan-typed}
use Rattle.pipe_global.specs.Partition.{no_store, store_of, with_frames}
use Rattle.pipe_run.specs.declared.output.GroupByOutput.{GroupByOutput}
use Rattle.pipe_run.specs.Answered.{HasFrames, HaveReplayedFrames, HaveWholeFrames, IsAnswered}
use Rattle.pipe_run.specs.Fed.{FedSeen}
use Rattle.pipe_run.specs.Setting.{run_over, Setting}
use Rattle.pipe_run.specs.WholeRun.{setting_fits}
use Rattle.pipe_run.proofs.LimitFacts.{fit-count}
use Rattle.pipe_run.proofs.RunEnds.{untouched-in}
use Rattle.pipe_group_by.specs.Typed.{no_journals, typed_seen}

-- ---- journals

-- no journal has an event
none-journal : (n p : ℕ) → journal_of (no_journals n) p ≡ []
none-journal zero p = refl
none-journal (suc n) zero = refl
none-journal (suc n) (suc p) = none-journal n p

-- that holds the plans of a typed sink whole
none-whole : (r : Run) (p : ℕ) → is_generic r.limits.sink ≡ false → IsWhole r p []
none-whole r p typed = record { workers = All-nil (λ (e : PartitionEvent). worker_of e < r.limits.workers); plans = λ w lt. sym (plan-typed r w p typed) }

pub none-plans : (r : Run) (n p : ℕ) → is_generic r.limits.sink ≡ false → IsWhole r p (journal_of (no_journals n) p)
none-plans r n p typed = subst (IsWhole r p) (sym (none-journal n p)) (none-whole r p typed)

-- and nothing overflows
none-overflow : (r : Run) → is_generic r.limits.sink ≡ false → overflow_count r ≡ 0
none-overflow r typed =
    let n = r.limits.workers in
    let m = r.limits.partitions in
    sum_to-range n (λ w. sum_by (λ p. length (overflow r w p)) (range_with_len 0 m))
    ∙ sum_to-same n _ (λ w. 0) (λ w lt. sum_to-range m (λ p. length (overflow r w p)) ∙ sum_to-same m _ (λ p. 0) (λ p lt. ap (λ (l : List Row). length l) (overflow-typed r w p typed)) ∙ sum_to-zero m)
    ∙ sum_to-zero n

-- ---- stores

told-none : (told : Option (List (List ℕ))) → told ≡ with_frames told []
told-none None = refl
told-none (Some frames) = ap (λ (l : List (List ℕ)). Some l) (sym (append-nil frames))

module _ (x : Setting) (chunks : List DataChunk) (s : FedSeen) (view : typed_seen x chunks ≡ s) (fit : setting_fits x ≡ true) (stores : List StoreSeen) (same : stores ≡ x.stores) where
  -- they have the frames of no event
  replayed : (o : Bool) → HaveReplayedFrames (run_over x o chunks) (no_journals x.limits.partitions) x.stores
  replayed o = record {
    count = sym (length-map x.stores (λ (t : StoreSeen). t.held)) ∙ fit-count x.limits (length x.actions) (map (λ (t : StoreSeen). t.held) x.stores) fit;
    each = λ p lt.
        let r = run_over x o chunks in
        subst (λ (j : List PartitionEvent). HasFrames (store_of r p) r (replay r p j).frames (slice_index_or x.stores p no_store)) (sym (none-journal x.limits.partitions p))
        (record { told = told-none (store_of r p).told; held = omega arith; sure = refl; path = refl });
  }

  -- where a run is given up
  pub given-frames : HaveReplayedFrames (run_over s.setting true s.chunks) s.journals stores
  given-frames = subst (λ (s : FedSeen). HaveReplayedFrames (run_over s.setting true s.chunks) s.journals stores) view (subst (HaveReplayedFrames (run_over x true chunks) (no_journals x.limits.partitions)) (sym same) (replayed true))

  -- and where it is refused
  pub left-frames : (o : Bool) (reached : List DataChunk) → HaveWholeFrames (run_over s.setting o reached) stores
  left-frames o reached = subst (λ (s : FedSeen). HaveWholeFrames (run_over s.setting o reached) stores) view (subst (HaveWholeFrames (run_over x o reached)) (sym same) (untouched-in x o reached fit))

  pub given-back : HaveWholeFrames (run_over s.setting true s.chunks) stores
  given-back = left-frames true s.chunks

  -- and where it is answered
  pub typed-answered : is_generic x.limits.sink ≡ false → (out : GroupByOutput) → out.frame ≡ answer chunks (query_tree x.query) x.limits.partitions → out.journals ≡ no_journals x.limits.partitions → out.overflow ≡ 0
      → IsAnswered (run_over s.setting false s.chunks) out stores
  typed-answered typed out frame journals none = subst (λ (s : FedSeen). IsAnswered (run_over s.setting false s.chunks) out stores) view (record {
    plans = λ p lt. subst (λ (js : List (List PartitionEvent)). IsWhole (run_over x false chunks) p (journal_of js p)) (sym journals) (none-plans (run_over x false chunks) x.limits.partitions p typed);
    count = ap (λ (js : List (List PartitionEvent)). length js) journals ∙ length-replicate x.limits.partitions [];
    frames = subst (λ (js : List (List PartitionEvent)). HaveReplayedFrames (run_over x false chunks) js stores) (sym journals) (subst (HaveReplayedFrames (run_over x false chunks) (no_journals x.limits.partitions)) (sym same) (replayed false));
    overflow = none ∙ sym (none-overflow (run_over x false chunks) typed);
    answer = λ _. frame;
  })
