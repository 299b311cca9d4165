-- The chunks that a group source gives, one below the other.
use Rattle.std.proofs.Common.{◌≡◌, ◌∙◌, ◌+◌, ◌<◌, ℕ, zero, suc, Bool, true, false, List, [], ◌∷◌, ◌++◌, length, map, refl, sym, ap, append_assoc, Option, None, Some, take, drop}
use Rattle.std.specs.Prelude.{fold, if◌then◌else◌}
use Rattle.std.specs.List.{flat_map, range_with_len}
use Rattle.std.proofs.lemmas.Bool.{eqb-true, false≢true}
use Rattle.std.proofs.lemmas.List.{append-nil, map-append}
use Rattle.pipe_columns.specs.declared.any_value.AnyValue.{AnyValue}
use Rattle.pipe_columns.specs.Frame.{frame_of, FrameData, stacked}
use Rattle.pipe_columns.specs.Row.{Row}
use Rattle.pipe_columns.specs.Slice.{sliced}
use Rattle.pipe_columns.specs.declared.data_chunk.DataChunk.{DataChunk}
use Rattle.pipe_model.specs.Answer.{answer_of, answer_row, groups}
use Rattle.pipe_model.specs.Output.{output_schema}
use Rattle.pipe_model.specs.Partitions.{groups_in}
use Rattle.pipe_model.specs.Query.{QueryTree}
use Rattle.pipe_model.proofs.PartitionFacts.{groups-joined}
use Rattle.pipe_groups.specs.Given.{slice_after}
use Rattle.pipe_groups.proofs.PartsFacts.{stacked-frame}
use Rattle.pipe_asked.specs.Given.{partition_chunk, partition_chunks, is_used_up, joined_frames}
use Rattle.pipe_asked.specs.Sources.{chunks_in_all, whole_chunk}
use Rattle.pipe_asked.proofs.Slicing.{sliced-append}

-- a slice without length keeps nothing
used-up : {X : Type 0} (slice : Option (ℕ × ℕ)) (xs : List X) → is_used_up slice ≡ true → sliced slice xs ≡ []
used-up None xs e = absurd (false≢true e)
used-up (Some s) xs e = ap (λ n. take n (drop s.0 xs)) (eqb-true s.1 0 e)

-- of nothing a slice keeps nothing
sliced-nil : {A : Type 0} (slice : Option (ℕ × ℕ)) → sliced {X = A} slice [] ≡ []
sliced-nil None = refl
sliced-nil (Some s) = by s.0 s.1 where
  by : {B : Type 0} (offset len : ℕ) → take len (drop {A = B} offset []) ≡ []
  by zero zero = refl
  by zero (suc len) = refl
  by (suc offset) zero = refl
  by (suc offset) (suc len) = refl

module _ (q : QueryTree) (rs : List Row) (partitions : ℕ) where
  -- the rows of keys
  abbrev rows_of : List (List AnyValue) → List (List AnyValue)
  rows_of keys = map (answer_row q rs) keys

  -- the keys of n partitions from p on
  abbrev keys_from : ℕ → ℕ → List (List AnyValue)
  keys_from p n = flat_map (λ k. groups_in partitions q k rs) (range_with_len p n)

  abbrev frame : List (List AnyValue) → FrameData
  frame rows = frame_of (output_schema q) rows

  -- below some rows, the chunks are the rows of the slice of what is left
  joined-from : (slice : Option (ℕ × ℕ)) (p n : ℕ) (above : List (List AnyValue))
      → fold (λ f c. stacked f c.frame) (frame above) (partition_chunks q rs partitions slice p n) ≡ frame (above ++ rows_of (sliced slice (keys_from p n)))
  joined-from slice p zero above = ap frame (sym (append-nil above) ∙ ap (λ l. above ++ rows_of l) (sym (sliced-nil slice)))
  joined-from slice p (suc n) above = by (is_used_up slice) refl (λ left more. joined-from left (p + 1) n more) where
    by : (b : Bool) → is_used_up slice ≡ b
        → ((left : Option (ℕ × ℕ)) (more : List (List AnyValue)) → fold (λ f c. stacked f c.frame) (frame more) (partition_chunks q rs partitions left (p + 1) n) ≡ frame (more ++ rows_of (sliced left (keys_from (p + 1) n))))
        → fold (λ f c. stacked f c.frame) (frame above) (if b then [] else partition_chunk q rs partitions slice p ∷ partition_chunks q rs partitions (slice_after (length (groups_in partitions q p rs)) slice) (p + 1) n)
        ≡ frame (above ++ rows_of (sliced slice (groups_in partitions q p rs ++ keys_from (p + 1) n)))
    by true e next = ap frame (sym (append-nil above) ∙ ap (λ l. above ++ rows_of l) (sym (used-up slice (groups_in partitions q p rs ++ keys_from (p + 1) n) e)))
    by false e next =
        let own = groups_in partitions q p rs in
        let left = slice_after (length own) slice in
        ap (λ f. fold (λ f c. stacked f c.frame) f (partition_chunks q rs partitions left (p + 1) n)) (stacked-frame (output_schema q) above (rows_of (sliced slice own)))
        ∙ next left (above ++ rows_of (sliced slice own))
        ∙ ap frame (append_assoc above (rows_of (sliced slice own)) (rows_of (sliced left (keys_from (p + 1) n)))
        ∙ ap (λ l. above ++ l) (sym (map-append (answer_row q rs) (sliced slice own) (sliced left (keys_from (p + 1) n))) ∙ ap rows_of (sym (sliced-append slice own (keys_from (p + 1) n)))))

  -- so all of them are the answer
  joined-all : 0 < partitions → q.keeps_order ≡ false → joined_frames q (partition_chunks q rs partitions q.slice 0 partitions) ≡ answer_of rs q partitions
  joined-all some unordered =
      joined-from q.slice 0 partitions []
      ∙ ap (λ keys. frame (rows_of (sliced q.slice keys))) (sym (groups-joined rs q partitions unordered some))

  -- so the one chunk of all groups is
  joined-whole : (b : Bool) → is_used_up q.slice ≡ b → joined_frames q (if b then [] else whole_chunk q rs partitions q.slice ∷ []) ≡ answer_of rs q partitions
  joined-whole true e = ap (λ keys. frame (rows_of keys)) (sym (used-up q.slice (groups rs q partitions) e))
  joined-whole false e = stacked-frame (output_schema q) [] (rows_of (sliced q.slice (groups rs q partitions)))

  -- all chunks, by whether order is kept
  abbrev chunks_by : Bool → List DataChunk
  chunks_by b = if b then (if is_used_up q.slice then [] else whole_chunk q rs partitions q.slice ∷ []) else partition_chunks q rs partitions q.slice 0 partitions

  -- in either order
  pub joined-chunks : 0 < partitions → joined_frames q (chunks_in_all q rs partitions) ≡ answer_of rs q partitions
  joined-chunks some = by q.keeps_order refl where
    by : (b : Bool) → q.keeps_order ≡ b → joined_frames q (chunks_by q.keeps_order) ≡ answer_of rs q partitions
    by true e = ap (λ b. joined_frames q (chunks_by b)) e ∙ joined-whole (is_used_up q.slice) refl
    by false e = ap (λ b. joined_frames q (chunks_by b)) e ∙ joined-all some e
