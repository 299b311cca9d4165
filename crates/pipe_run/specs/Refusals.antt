-- Why a run is refused before any worker starts.
use Rattle.std.specs.Prelude.{◌≡◌, ◌<◌, ◌≤◌, ◌^◌, ◌==◌, ◌&&◌, ℕ, Bool, true, false, nat_le, nat_lt, List, All, length, take, slice_get, Option, None, Some, ◌⊎◌}
use Rattle.std.specs.List.{list_all}
use Rattle.pipe_columns.specs.declared.data_chunk.DataChunk.{DataChunk}
use Rattle.pipe_columns.specs.declared.data_type.DataType.{DataType}
use Rattle.pipe_columns.specs.declared.schema.Field.{Field}
use Rattle.pipe_columns.specs.DataType.{is_integer, is_string}
use Rattle.pipe_columns.specs.Frame.{FitsSchema}
use Rattle.pipe_aggs.specs.declared.query_fault.QueryFault.{QueryFault}
use Rattle.pipe_model.specs.Rows.{total_height}
use Rattle.pipe_plan.specs.declared.limits.Limits.{Limits}
use Rattle.pipe_plan.specs.declared.limits.SinkKind.{SinkKind}
use Rattle.pipe_plan.specs.declared.limits.SinkKind.TheVariants as sink_kind
use Rattle.pipe_run.specs.declared.error.PipeError.{PipeError}
use Rattle.pipe_run.specs.declared.error.PipeError.TheVariants as error

-- whether a number lies between two others, or is one of them
abbrev pub lies_between : ℕ → ℕ → ℕ → Bool
lies_between low high n = nat_le low n && nat_le n high

-- whether limits lie within theirs, and there are a list of actions for each worker and a store for
-- each partition, with numbers left for its frames
abbrev pub limits_fit : Limits → ℕ → List ℕ → Bool
limits_fit l actions held =
    lies_between 1 256 l.workers && lies_between 1 4096 l.partitions && nat_lt 0 l.buffer_size
    && (actions == l.workers) && (length held == l.partitions)
    && list_all (λ n. nat_lt n (2 ^ 63)) held

-- whether there is one key, and its type passes a test
abbrev pub are_sole : (DataType → Bool) → List DataType → Bool
are_sole test types = (length types == 1) && list_all test types

-- whether a kind of sink suits keys of these types: a typed one is for one key, of whole numbers of up
-- to 64 bits or of texts
abbrev pub suits_keys : SinkKind → List DataType → Bool
suits_keys sink_kind.Generic types = true
suits_keys sink_kind.Primitive types = are_sole is_integer types
suits_keys sink_kind.Text types = are_sole is_string types

-- the chunk at a position has other columns than a schema, and is the first that has
pub record IsFirstMisfit (fields : List Field) (chunks : List DataChunk) (i : ℕ) : Type 0 where
  pub chunk : DataChunk
  pub at : slice_get chunks i ≡ Some chunk
  pub before : All (λ c. FitsSchema fields c.frame) (take i chunks)
  pub misfit : FitsSchema fields chunk.frame → ⊥

-- each chunk has the columns of a schema
abbrev pub AllHaveFields : List Field → List DataChunk → Type 0
AllHaveFields fields chunks = All (λ c. FitsSchema fields c.frame) chunks

-- there are fewer than 2^32 rows, and as few chunks
abbrev pub AreFewChunks : List DataChunk → Type 0
AreFewChunks chunks = (total_height chunks < 2 ^ 32) × (length chunks < 2 ^ 32)

-- there are 2^32 rows or more, or as many chunks
abbrev pub AreMany : List DataChunk → Type 0
AreMany chunks = (2 ^ 32 ≤ total_height chunks) ⊎ (2 ^ 32 ≤ length chunks)

-- why a run is not begun: its limits don't fit; or they do, and the query has a fault; or it has none,
-- and the kind of sink doesn't suit its keys; or the limits fit, and memory ran out
abbrev pub IsBeginCause : Bool → Option QueryFault → Bool → PipeError → Type 0
IsBeginCause fit fault suited error.Limits = fit ≡ false
IsBeginCause fit fault suited (error.Query f) = (fit ≡ true) × (fault ≡ Some f)
IsBeginCause fit fault suited error.Sink = (fit ≡ true) × (fault ≡ None) × (suited ≡ false)
IsBeginCause fit fault suited error.Memory = fit ≡ true
IsBeginCause fit fault suited (error.Schema i) = ⊥
IsBeginCause fit fault suited error.TooLarge = ⊥
IsBeginCause fit fault suited (error.Store p) = ⊥
IsBeginCause fit fault suited (error.Damaged p n) = ⊥

-- chunks can be fed: all fit, and they are few
pub record CanFeed (fields : List Field) (chunks : List DataChunk) : Type 0 where
  pub fit : AllHaveFields fields chunks
  pub few : AreFewChunks chunks
