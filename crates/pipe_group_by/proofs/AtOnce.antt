-- How a run of typed sinks over all its chunks at once ends.
use Rattle.std.proofs.Common.{◌≡◌, ◌∙◌, ℕ, true, List, [], ◌++◌, subst, Err}
use Rattle.pipe_columns.specs.declared.data_chunk.DataChunk.{DataChunk}
use Rattle.pipe_plan.specs.Run.{StoreSeen}
use Rattle.pipe_run.specs.declared.error.PipeError.{PipeError}
use Rattle.pipe_run.specs.declared.error.PipeError.TheVariants as error
use Rattle.pipe_run.specs.Answered.{HaveWholeFrames}
use Rattle.pipe_run.specs.Fed.{FedSeen}
use Rattle.pipe_run.specs.Feeding.{chunks_reached, IsFeedCause}
use Rattle.pipe_run.specs.Refusals.{AllHaveFields, AreMany, CanFeed, IsFirstMisfit}
use Rattle.pipe_run.specs.Setting.{run_over, Setting}
use Rattle.pipe_run.specs.WholeRun.{CanBegin, EndsRun}
use Rattle.pipe_run.proofs.Counted.{calm-same}
use Rattle.pipe_run.proofs.RunEnds.{chunks-ends, feed-ends, memory-ends}

-- where its one feed is refused: a feed that is refused for its chunks, or for want of memory, leaves the
-- stores as they were
pub typed-refused : (x : Setting) (chunks : List DataChunk) (s : FedSeen) (stores : List StoreSeen) (e : PipeError) → CanBegin x → s.setting ≡ x → s.chunks ≡ [] → s.stores ≡ x.stores
    → IsFeedCause s chunks stores e → stores ≡ s.stores → HaveWholeFrames (run_over s.setting true (chunks_reached s chunks e)) stores → EndsRun x chunks (Err e) stores
typed-refused x chunks s stores e begin setting none found cause same back = by e cause back where
  left : stores ≡ x.stores
  left = same ∙ found

  misfit : (i : ℕ) → IsFirstMisfit s.setting.query.schema (s.chunks ++ chunks) i → IsFirstMisfit x.query.schema chunks i
  misfit i is = subst (λ (y : Setting). IsFirstMisfit y.query.schema chunks i) setting (subst (λ (l : List DataChunk). IsFirstMisfit s.setting.query.schema (l ++ chunks) i) none is)

  large : AllHaveFields s.setting.query.schema (s.chunks ++ chunks) × AreMany (s.chunks ++ chunks) → AllHaveFields x.query.schema chunks × AreMany chunks
  large is = subst (λ (y : Setting). AllHaveFields y.query.schema chunks × AreMany chunks) setting (subst (λ (l : List DataChunk). AllHaveFields s.setting.query.schema (l ++ chunks) × AreMany (l ++ chunks)) none is)

  by : (e : PipeError) → IsFeedCause s chunks stores e → HaveWholeFrames (run_over s.setting true (chunks_reached s chunks e)) stores → EndsRun x chunks (Err e) stores
  by (error.Schema i) cause back = chunks-ends x chunks stores (error.Schema i) begin left tt (λ j is. misfit j (subst (λ (k : ℕ). IsFirstMisfit s.setting.query.schema (s.chunks ++ chunks) k) (cc) cause)) (λ is. cc)
  by error.TooLarge cause back = chunks-ends x chunks stores error.TooLarge begin left tt (λ j is. cc) (λ is. large cause)
  by (error.Store p) cause back =
      let feed = subst (λ (y : Setting). CanFeed y.query.schema chunks) setting (subst (λ (l : List DataChunk). CanFeed s.setting.query.schema (l ++ chunks)) none cause.0) in
      feed-ends x chunks s stores (error.Store p) (record { begin = begin; feed = feed }) setting none (calm-same x.stores s.stores found) cause back
  by error.Memory cause back = memory-ends x chunks stores begin.fit left
  by error.Limits cause back = absurd cause
  by (error.Query f) cause back = absurd cause
  by error.Sink cause back = absurd cause
  by (error.Damaged p n) cause back = absurd cause

-- chunks that were fed to a run without any can be
pub fed-can : (x : Setting) (chunks : List DataChunk) (s : FedSeen) → s.setting ≡ x → s.chunks ≡ [] → CanFeed s.setting.query.schema (s.chunks ++ chunks) → CanFeed x.query.schema chunks
fed-can x chunks s setting none can = subst (λ (y : Setting). CanFeed y.query.schema chunks) setting (subst (λ (l : List DataChunk). CanFeed s.setting.query.schema (l ++ chunks)) none can)
