-- The answer of a run that has ended, and why there is none.
use Rattle.std.proofs.Common.{◌≡◌, ◌∙◌, ◌+◌, ◌<◌, ◌≤◌, ℕ, zero, suc, true, false, not, List, [], ◌∷◌, length, map, refl, sym, ap, subst, arith, Option, Some, None}
use Rattle.std.specs.Prelude.{is_some}
use Rattle.std.specs.List.{All, Contains, slice_index_or}
use Rattle.std.proofs.lemmas.Bool.{false≢true}
use Rattle.std.proofs.lemmas.List.{get_or_default}
use Rattle.pipe_columns.specs.Frame.{FitsSchema, FrameData}
use Rattle.pipe_columns.specs.Row.{Row}
use Rattle.pipe_aggs.specs.declared.query.Query.{Query}
use Rattle.pipe_aggs.specs.QueryTrees.{query_tree}
use Rattle.pipe_model.specs.Answer.{answer_of}
use Rattle.pipe_model.specs.Output.{output_schema}
use Rattle.pipe_plan.specs.Run.{all_rows, Run, tells}
use Rattle.pipe_plan.specs.Replay.{replay}
use Rattle.pipe_keyed.specs.Tables.{Table}
use Rattle.pipe_global.specs.declared.batch_error.BatchError.{BatchError}
use Rattle.pipe_global.specs.declared.batch_error.BatchError.TheVariants as batch_error
use Rattle.pipe_global.specs.declared.mark.Mark.{Mark}
use Rattle.pipe_global.specs.Partition.{IsReplayed, marks_from, PartitionSeen, store_of, with_frames}
use Rattle.pipe_run.specs.Ending.{IsAnswerCause}
use Rattle.pipe_asked.specs.Left.{RoseFrom}
use Rattle.pipe_run.specs.Fed.{AreWholePartitions}
use Rattle.pipe_asked.specs.Given.{HasRows, SourceSeen}
use Rattle.pipe_asked.specs.Sources.{IsGiveCause, KeepsAsked, unasked}
use Rattle.pipe_asked.specs.Wholes.{IsAnswerWhole}
use Rattle.pipe_run.specs.Wholes.{IsRunWhole}

-- a whole of what stands for the rows of a run is that of its answer
pub ended-whole : {W : Type 0} (Is : W → FrameData → Type 0) (r : Run) (s : SourceSeen) (w : W) → r.query ≡ query_tree s.query → length s.partitions ≡ r.limits.partitions
    → (All (λ s. tells s ≡ true) r.stores → HasRows (all_rows r) s) → IsAnswerWhole Is s w → IsRunWhole Is r w
ended-whole Is r s w of_query count rows whole = record {
  frame = whole.frame;
  fits = subst (λ q. FitsSchema (output_schema q) whole.frame) (sym of_query) whole.fits;
  is = whole.is;
  answer = λ told. whole.answer (all_rows r) (rows told) ∙ (λ i. answer_of (all_rows r) (sym of_query i) (count i));
}

-- ---- why there is none

-- marks are numbered from the first on, as many as there are frames
mark-at : (first : ℕ) (frames : List (List Row)) (k d : ℕ) → k < length frames → slice_index_or (map (λ (m : Mark). m.number) (marks_from first frames)) k d ≡ first + k
mark-at first [] k d lt = absurd (omega (arith, lt))
mark-at first (x ∷ frames) zero d lt = omega arith
mark-at first (x ∷ frames) (suc k) d lt = mark-at (first + 1) frames k d (omega (arith, lt)) ∙ omega arith

marks-long : (first : ℕ) (frames : List (List Row)) → length (map (λ (m : Mark). m.number) (marks_from first frames)) ≡ length frames
marks-long first [] = refl
marks-long first (x ∷ frames) = ap suc (marks-long (first + 1) frames)

mark-within : (first : ℕ) (frames : List (List Row)) (n : ℕ) → Contains (map (λ (m : Mark). m.number) (marks_from first frames)) n → (first ≤ n) × (n < first + length frames)
mark-within first frames n there =
    let lt : there.0 < length frames = omega (arith, there.1, marks-long first frames) in
    let is : first + there.0 ≡ n = sym (mark-at first frames there.0 n lt) ∙ there.2 in
    (omega (arith, is), omega (arith, is, lt))

-- a store that doesn't tell didn't
untold : (more : List (List ℕ)) (o : Option (List (List ℕ))) → with_frames o more ≡ None → o ≡ None
untold more None = λ e. refl
untold more (Some frames) = λ e. absurd (false≢true (ap (λ (p : Option (List (List ℕ))). not (is_some p)) e))

pub ended-cause : (r : Run) (query : Query) (closed after : List PartitionSeen) (local : Table) (new : SourceSeen) (e : BatchError) → AreWholePartitions r closed
    → KeepsAsked (unasked query closed local (query_tree query).slice) new → after ≡ new.partitions
    → IsGiveCause (unasked query closed local (query_tree query).slice) new e → IsAnswerCause r closed after e
ended-cause r query closed after local new (batch_error.Store p) whole kept is cause = subst (RoseFrom closed p) (sym is) cause.1
ended-cause r query closed after local new (batch_error.Damaged p n) whole kept is cause = by closed refl where
  by : (cs : List PartitionSeen) → closed ≡ cs → IsAnswerCause r closed after (batch_error.Damaged p n)
  by [] e = absurd (omega (arith, cause.1, ap (λ (l : List PartitionSeen). length l) e))
  by (x ∷ cs) e =
      let at : IsReplayed r p (slice_index_or closed p x) = (whole.each p x cause.1).replayed in
      let within = mark-within (store_of r p).held (replay r p (slice_index_or closed p x).journal).frames n (subst (λ (l : List Mark). Contains (map (λ m. m.number) l) n) at.replayed.marks (cause.2 x).1) in (
        cause.1,
        untold _ (store_of r p).told (sym at.replayed.told ∙ (cause.2 x).0),
        within.0,
        λ d.
            let same : slice_index_or closed p d ≡ slice_index_or closed p x = get_or_default closed p d x cause.1 in
            let held : (slice_index_or after p d).store.held ≡ (slice_index_or closed p d).store.held = ap (λ (ps : List PartitionSeen). (slice_index_or ps p d).store.held) is ∙ (kept.partitions.each p d cause.1).store.held in
            omega (arith, within.1, at.replayed.held, held, ap (λ (s : PartitionSeen). s.store.held) same),
      )
ended-cause r query closed after local new batch_error.Memory whole kept is cause = tt
