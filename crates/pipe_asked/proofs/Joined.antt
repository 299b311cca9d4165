-- The chunks of a source below one another.
use Rattle.std.proofs.Common.{◌≡◌, ◌∙◌, ◌+◌, ◌<◌, ◌≤◌, ℕ, true, false, List, [], ◌∷◌, length, fold, refl, sym, ap, subst, arith, Option}
use Rattle.std.proofs.lemmas.Bool.{false≢true}
use Rattle.pipe_columns.specs.declared.data_chunk.DataChunk.{DataChunk}
use Rattle.pipe_columns.specs.declared.schema.Field.{Field}
use Rattle.pipe_columns.specs.Frame.{AllHaveHeight, fields_of, FitsSchema, frame_of, FrameData, stacked}
use Rattle.pipe_columns.specs.Row.{Row}
use Rattle.pipe_columns.proofs.FrameFacts.{empty_height, stacked_height}
use Rattle.pipe_aggs.specs.declared.query.Query.{Query}
use Rattle.pipe_aggs.specs.QueryTrees.{query_tree}
use Rattle.pipe_model.specs.Answer.{answer, answer_of}
use Rattle.pipe_model.specs.Output.{output_schema}
use Rattle.pipe_groups.proofs.FrameRows.{frame-fields}
use Rattle.pipe_keyed.specs.Tables.{Table}
use Rattle.pipe_global.specs.declared.batch_error.BatchError.{BatchError}
use Rattle.pipe_global.specs.declared.batch_error.BatchError.TheVariants as batch_error
use Rattle.pipe_global.specs.Partition.{PartitionSeen}
use Rattle.pipe_asked.specs.Left.{RoseFrom}
use Rattle.pipe_asked.specs.Given.{HasRows, joined_frames, SourceSeen}
use Rattle.pipe_asked.specs.Sources.{chunks_left, GroupSourceSeen, HasAllRows, is_over, IsGiveCause, KeepsAsked, LeavesOthers, source_query, unasked}
use Rattle.pipe_asked.specs.Stacking.{IsOfFields, IsWholeOfChunks}
use Rattle.pipe_asked.specs.Wholes.{IsAnswerWhole}
use Rattle.pipe_asked.proofs.Asking.{asked-same, asked-trans, others-same, others-trans}
use Rattle.pipe_asked.proofs.ByPlace.{stacked-fields}
use Rattle.pipe_asked.proofs.Joining.{joined-chunks}
use Rattle.pipe_asked.proofs.Sourcing.{all-left, over-left}

-- ---- chunk by chunk

-- chunks below a frame
abbrev pub below : FrameData → List DataChunk → FrameData
below f chunks = fold (λ f c. stacked f c.frame) f chunks

-- a source gave chunks, and a whole is that of a frame which has them below one another
pub record IsJoining {W : Type 0} (Is : W → FrameData → Type 0) (s now : GroupSourceSeen) (whole : W) : Type 0 where
  pub frame : FrameData
  pub is : Is whole frame
  pub tall : AllHaveHeight frame.height frame.columns
  pub fields : FitsSchema (output_schema (source_query s)) frame
  pub kept : KeepsAsked s.asked now.asked
  pub others : LeavesOthers s.asked now.asked
  pub rows : (rs : List Row) → HasAllRows rs s → HasAllRows rs now × (below frame (chunks_left rs now) ≡ joined_frames (source_query s) (chunks_left rs s))

-- before the first
pub joining-none : {W : Type 0} (Is : W → FrameData → Type 0) (s : GroupSourceSeen) (whole : W) → Is whole (frame_of (output_schema (source_query s)) []) → IsJoining Is s s whole
joining-none Is s whole is = record {
  frame = frame_of (output_schema (source_query s)) [];
  is = is;
  tall = empty_height 0 (output_schema (source_query s));
  fields = frame-fields 0 (output_schema (source_query s)) [];
  kept = asked-same s.asked;
  others = others-same s.asked;
  rows = λ rs all. (all, refl);
}

module _ {W : Type 0} (Is : W → FrameData → Type 0) (s now : GroupSourceSeen) (whole : W) (h : IsJoining Is s now whole) where
  -- the next chunk has the same columns
  chunk-fields : (c : DataChunk) → FitsSchema (output_schema (source_query now)) c.frame → FitsSchema (output_schema (source_query s)) c.frame
  chunk-fields c fits = fits ∙ ap (λ (q : Query). output_schema (query_tree q)) h.kept.query

  pub chunk-taken : (Takes : List Field → Type 0) (c : DataChunk) → FitsSchema (output_schema (source_query now)) c.frame → Takes (output_schema (source_query s)) → Takes (fields_of c.frame.columns)
  chunk-taken Takes c fits takes = subst Takes (sym (chunk-fields c fits)) takes

  pub chunk-alike : (c : DataChunk) → FitsSchema (output_schema (source_query now)) c.frame → IsOfFields Is (fields_of c.frame.columns) whole
  chunk-alike c fits = record { frame = h.frame; is = h.is; fits = h.fields ∙ sym (chunk-fields c fits) }

  -- one more
  pub joining-more : (new : GroupSourceSeen) (next : W) (c : DataChunk) → KeepsAsked now.asked new.asked → LeavesOthers now.asked new.asked
      → FitsSchema (output_schema (source_query now)) c.frame → AllHaveHeight c.frame.height c.frame.columns
      → ((f : FrameData) → fields_of c.frame.columns ≡ fields_of f.columns → AllHaveHeight f.height f.columns → Is whole f → Is next (stacked f c.frame))
      → ((rs : List Row) → HasAllRows rs now → HasAllRows rs new) → ((rs : List Row) → HasAllRows rs now → chunks_left rs now ≡ c ∷ chunks_left rs new) → IsJoining Is s new next
  joining-more new next c kept others fits tall below_is stands left =
      let same : fields_of c.frame.columns ≡ fields_of h.frame.columns = chunk-fields c fits ∙ sym h.fields in record {
        frame = stacked h.frame c.frame;
        is = below_is h.frame same h.tall h.is;
        tall = stacked_height h.frame.height c.frame.height c.frame.columns h.frame.columns same h.tall tall;
        fields = stacked-fields c.frame.columns h.frame.columns ∙ h.fields;
        kept = asked-trans s.asked now.asked new.asked h.kept kept;
        others = others-trans s.asked now.asked new.asked h.kept kept h.others others;
        rows = λ rs all.
            let before = h.rows rs all in
            (stands rs before.0, ap (below h.frame) (sym (left rs before.0)) ∙ before.1);
      }

  -- and where none is left, all of them
  pub joining-all : is_over now ≡ true → IsWholeOfChunks Is s whole
  joining-all over = record {
    frame = h.frame;
    fits = h.fields;
    is = h.is;
    joined = λ rs all. ap (below h.frame) (sym (over-left now rs over)) ∙ (h.rows rs all).1;
  }

-- ---- over the rows that its partitions stand for

-- the chunks of all partitions below one another are the answer
pub turn-answer : (query : Query) (closed : List PartitionSeen) (local : Table) (slice : Option (ℕ × ℕ)) (f : FrameData) → slice ≡ (query_tree query).slice → 0 < length closed
    → ((rs : List Row) → HasAllRows rs (record { asked = unasked query closed local slice; placed = []; is_given = false })
    → f ≡ joined_frames (query_tree query) (chunks_left rs (record { asked = unasked query closed local slice; placed = []; is_given = false })))
    → (rs : List Row) → HasRows rs (unasked query closed local slice) → f ≡ answer_of rs (query_tree query) (length closed)
turn-answer query closed local slice f is some joined rs rows =
    let all : HasAllRows rs (record { asked = unasked query closed local slice; placed = []; is_given = false }) = record { some = some; rows = rows; placed = λ p d lt. absurd (omega (arith, lt)) } in
    joined rs all
    ∙ ap (λ (sl : Option (ℕ × ℕ)). joined_frames (query_tree query) (chunks_left rs (record { asked = unasked query closed local sl; placed = []; is_given = false }))) is
    ∙ ap (joined_frames (query_tree query)) (all-left query closed local rs)
    ∙ joined-chunks (query_tree query) rs (length closed) some

pub turn-whole : {W : Type 0} (Is : W → FrameData → Type 0) (query : Query) (closed : List PartitionSeen) (local : Table) (slice : Option (ℕ × ℕ)) (whole : W) → slice ≡ (query_tree query).slice → 0 < length closed
    → IsWholeOfChunks Is (record { asked = unasked query closed local slice; placed = []; is_given = false }) whole → IsAnswerWhole Is (unasked query closed local slice) whole
turn-whole Is query closed local slice whole is some h = record {
  frame = h.frame;
  fits = h.fits;
  is = h.is;
  answer = turn-answer query closed local slice h.frame is some h.joined;
}

-- a refusal tells of the partitions alone
pub cause-of-parts : (s new : SourceSeen) (after : List PartitionSeen) (e : BatchError) → after ≡ new.partitions → IsGiveCause s new e → IsGiveCause s (record s { partitions = after }) e
cause-of-parts s new after (batch_error.Store p) is cause = (cause.0, subst (RoseFrom s.partitions p) (sym is) cause.1)
cause-of-parts s new after (batch_error.Damaged p n) is cause = cause
cause-of-parts s new after batch_error.Memory is cause = tt
