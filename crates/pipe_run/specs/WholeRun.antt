-- A run over all its chunks at once: when it can be made, why it is refused, and what it leaves.
use Rattle.std.specs.Prelude.{◌≡◌, ◌<◌, ℕ, Bool, true, false, List, All, length, map, IfErr, IfOk, None, OnOk, Result, slice_index_or, Some}
use Rattle.pipe_columns.specs.Causes.{Rose}
use Rattle.pipe_columns.specs.declared.data_chunk.DataChunk.{DataChunk}
use Rattle.pipe_aggs.specs.Faults.{first_fault}
use Rattle.pipe_aggs.specs.QueryTrees.{query_tree}
use Rattle.pipe_model.specs.Output.{key_types}
use Rattle.pipe_plan.specs.Run.{StoreSeen, tells}
use Rattle.pipe_global.specs.Partition.{no_store}
use Rattle.pipe_run.specs.declared.error.PipeError.{PipeError}
use Rattle.pipe_run.specs.declared.error.PipeError.TheVariants as error
use Rattle.pipe_run.specs.declared.output.GroupByOutput.{GroupByOutput}
use Rattle.pipe_run.specs.Answered.{HaveWholeFrames, IsAnswered}
use Rattle.pipe_run.specs.Failing.{IsFirstFailed, NoneFailed}
use Rattle.pipe_run.specs.Finish.{HasPutUntold}
use Rattle.pipe_run.specs.Refusals.{AllHaveFields, AreMany, CanFeed, IsFirstMisfit, limits_fit, suits_keys}
use Rattle.pipe_run.specs.Setting.{run_over, Setting}

-- whether the limits of a setting fit its actions and its stores
abbrev pub setting_fits : Setting → Bool
setting_fits x = limits_fit x.limits (length x.actions) (map (λ s. s.held) x.stores)

-- whether the kind of sink of a setting suits the keys of its query
abbrev pub setting_suits : Setting → Bool
setting_suits x = suits_keys x.limits.sink (key_types (query_tree x.query))

-- a run can be begun: its limits fit, its query has no fault, and its kind of sink suits the keys
pub record CanBegin (x : Setting) : Type 0 where
  pub fit : setting_fits x ≡ true
  pub faultless : first_fault x.query ≡ None
  pub suited : setting_suits x ≡ true

-- a run can be made over chunks
pub record CanRunOver (x : Setting) (chunks : List DataChunk) : Type 0 where
  pub begin : CanBegin x
  pub feed : CanFeed x.query.schema chunks

-- why a run over chunks was refused. Limits, a fault of the query, a kind of sink that doesn't suit the
-- keys, a chunk that doesn't fit and too many rows or chunks are told in this order, each only where it
-- is so; then the store that is named is the first whose faults rose; or a store doesn't tell, and the
-- frame that is named is one that the run put there; or memory ran out
abbrev pub IsRunCause : Setting → List DataChunk → List StoreSeen → PipeError → Type 0
IsRunCause x chunks stores error.Limits = setting_fits x ≡ false
IsRunCause x chunks stores (error.Query f) =
    (setting_fits x ≡ true) × (first_fault x.query ≡ Some f)
IsRunCause x chunks stores error.Sink =
    (setting_fits x ≡ true) × (first_fault x.query ≡ None) × (setting_suits x ≡ false)
IsRunCause x chunks stores (error.Schema i) =
    CanBegin x × IsFirstMisfit x.query.schema chunks i
IsRunCause x chunks stores error.TooLarge =
    CanBegin x × AllHaveFields x.query.schema chunks × AreMany chunks
IsRunCause x chunks stores (error.Store p) =
    CanRunOver x chunks × IsFirstFailed x.stores stores p
IsRunCause x chunks stores (error.Damaged p n) = CanRunOver x chunks × (p < length stores)
    × HasPutUntold (slice_index_or x.stores p no_store) (slice_index_or stores p no_store) n
IsRunCause x chunks stores error.Memory = setting_fits x ≡ true

-- what a refused run leaves of its stores: what they were, where it was refused before a worker
-- started, and else their former frames and whole ones of the run
abbrev pub LeavesStores : Setting → List DataChunk → List StoreSeen → PipeError → Type 0
LeavesStores x chunks stores error.Limits = stores ≡ x.stores
LeavesStores x chunks stores (error.Query f) = stores ≡ x.stores
LeavesStores x chunks stores error.Sink = stores ≡ x.stores
LeavesStores x chunks stores (error.Schema i) = stores ≡ x.stores
LeavesStores x chunks stores error.TooLarge = stores ≡ x.stores
LeavesStores x chunks stores (error.Store p) = HaveWholeFrames (run_over x false chunks) stores
LeavesStores x chunks stores (error.Damaged p n) = HaveWholeFrames (run_over x false chunks) stores
LeavesStores x chunks stores error.Memory = HaveWholeFrames (run_over x false chunks) stores

-- no store's count of faults rose
abbrev pub NoneRose : List StoreSeen → List StoreSeen → Type 0
NoneRose before after = (p : ℕ) → p < length after
    → Rose (slice_index_or before p no_store).faults (slice_index_or after p no_store).faults → ⊥

-- how a run over chunks ends: where it is answered it could be made, and no count of faults is another;
-- else its cause is told; and where it can be made, all stores tell and no count of faults rose, it is
-- answered or memory ran out
pub record EndsRun (x : Setting) (chunks : List DataChunk) (result : Result GroupByOutput PipeError)
    (stores : List StoreSeen) : Type 0 where
  pub made : OnOk result (CanRunOver x chunks)
  pub answered : IfOk result (λ out. IsAnswered (run_over x false chunks) out stores)
  pub unfailed : OnOk result (NoneFailed x.stores stores)
  pub cause : IfErr result (λ e. IsRunCause x chunks stores e)
  pub left : IfErr result (λ e. LeavesStores x chunks stores e)
  pub complete : CanRunOver x chunks → All (λ s. tells s ≡ true) x.stores → NoneRose x.stores stores
      → IfErr result (λ e. e ≡ error.Memory)
