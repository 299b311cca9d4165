-- What a partition stands for after one event more.
use Rattle.std.proofs.Common.{◌≡◌, ◌∙◌, ◌+◌, ℕ, suc, Bool, true, false, List, [], ◌∷◌, ◌++◌, length, map, refl, sym, ap, subst, arith, length-append, append_assoc, Option, Some, None}
use Rattle.std.specs.Prelude.{if◌then◌else◌, nat_lt}
use Rattle.std.proofs.lemmas.List.{append-nil, length-map, map-append, map_push}
use Rattle.pipe_columns.specs.Row.{Row}
use Rattle.pipe_aggs.specs.CheckedQuery.{input_types}
use Rattle.pipe_model.specs.Output.{key_types}
use Rattle.pipe_model.specs.Query.{QueryTree}
use Rattle.pipe_plan.specs.Replay.{after_arrival, after_dump, after_merge, joined_lists, Replayed}
use Rattle.pipe_plan.specs.Run.{Run}
use Rattle.pipe_plan.specs.Whole.{rows_of}
use Rattle.pipe_plan.proofs.Replaying.{joined-append}
use Rattle.pipe_spill.specs.FrameBytes.{frame_bytes}
use Rattle.pipe_spill.specs.SpillRow.{joined_rows, Payload, payload_of, spilled}
use Rattle.pipe_spill.specs.Store.{with_frame}
use Rattle.pipe_spill.specs.declared.spill_row.SpillRow.{SpillRow}
use Rattle.pipe_spill.proofs.SpilledRows.{joined_spilled}
use Rattle.pipe_groups.specs.Holds.{Holds}
use Rattle.pipe_groups.specs.Shape.{Shape, shape_of}
use Rattle.pipe_groups.proofs.HoldFacts.{holds-same}
use Rattle.pipe_keyed.specs.Tables.{Table}
use Rattle.pipe_global.specs.declared.mark.Mark.{Mark}
use Rattle.pipe_global.specs.Partition.{frame_bytes_of, marks_from, PartitionSeen, payloads_of, spilled_all, StandsFor, store_of, with_frames}
use Rattle.pipe_global.specs.Steps.{IsDumped, IsMerged, next_mark, puts, with_payload}
use Rattle.pipe_global.specs.Refused.{IsKeptBut}

-- ---- lists

-- a mark more, for a frame more
marks-push : (first : ℕ) (frames : List (List Row)) (frame : List Row) → marks_from first (frames ++ frame ∷ []) ≡ marks_from first frames ++ record { number = first + length frames; rows = length frame } ∷ []
marks-push first [] frame = ap (λ n. record { number = n; rows = length frame } ∷ []) {x = first} {y = first + 0} (omega arith)
marks-push first (f ∷ frames) frame =
    ap (λ (l : List Mark). record { number = first; rows = length f } ∷ l)
    (marks-push (first + 1) frames frame ∙ ap (λ n. marks_from (first + 1) frames ++ record { number = n; rows = length frame } ∷ []) {x = first + 1 + length frames} {y = first + suc (length frames)} (omega arith))

-- told frames with more, and then one
frames-push : (told : Option (List (List ℕ))) (more : List (List ℕ)) (frame : List ℕ) → with_frame (with_frames told more) frame ≡ with_frames told (more ++ frame ∷ [])
frames-push None more frame = refl
frames-push (Some frames) more frame = ap (λ (l : List (List ℕ)). Some l) (append_assoc frames more (frame ∷ []))

-- the rows of what waits
pub waiting-rows : (q : QueryTree) (pieces : List (List Row)) (waiting : List Payload) → waiting ≡ payloads_of q pieces → joined_rows waiting ≡ spilled_all q (joined_lists pieces)
waiting-rows q pieces waiting is = ap joined_rows is ∙ joined_spilled (key_types q) pieces

-- and how many they are
pub waiting-count : (q : QueryTree) (pieces : List (List Row)) (waiting : List Payload) → waiting ≡ payloads_of q pieces → length (joined_rows waiting) ≡ length (joined_lists pieces)
waiting-count q pieces waiting is = ap (λ (l : List SpillRow). length l) (waiting-rows q pieces waiting is) ∙ length-map (joined_lists pieces) (spilled (key_types q))

-- ---- events

module _ (r : Run) (p : ℕ) (made : Replayed) (s : PartitionSeen) (at : StandsFor r p made s) where
  count-rows : (merged : List Row) (waiting frames : List (List Row)) → length (rows_of (record { merged = merged; waiting = waiting; frames = frames })) ≡ length merged + (length (joined_lists waiting) + length (joined_lists frames))
  count-rows merged waiting frames = length-append merged (joined_lists waiting ++ joined_lists frames) ∙ ap (λ n. length merged + n) (length-append (joined_lists waiting) (joined_lists frames))

  count-push : (pieces : List (List Row)) (piece : List Row) → length (joined_lists (pieces ++ piece ∷ [])) ≡ length (joined_lists pieces) + length piece
  count-push pieces piece = ap (λ (l : List Row). length l) (joined-append pieces (piece ∷ []) ∙ ap (λ (l : List Row). joined_lists pieces ++ l) (append-nil piece)) ∙ length-append (joined_lists pieces) piece

  -- a payload came to wait
  pub stands-arrival : (w : ℕ) (piece : List Row) (payload : Payload) → payload ≡ payload_of (key_types r.query) piece → StandsFor r p (after_arrival piece made) (with_payload s w payload)
  stands-arrival w piece payload is = record {
    merged = at.merged;
    waiting = ap (λ (x : Payload). s.waiting ++ x ∷ []) is ∙ ap (λ (l : List Payload). l ++ payload_of (key_types r.query) piece ∷ []) at.waiting ∙ sym (map_push (payload_of (key_types r.query)) made.waiting piece);
    marks = at.marks;
    held = at.held;
    told = at.told;
    arrived =
        let rows : length payload.rows ≡ length piece = ap (λ (x : Payload). length x.rows) is ∙ length-map piece (spilled (key_types r.query)) in
        omega (arith, rows, at.arrived, count-rows made.merged made.waiting made.frames, count-rows made.merged (made.waiting ++ piece ∷ []) made.frames, count-push made.waiting piece);
  }

  -- what waited was merged
  pub stands-merge : (w : ℕ) (new : PartitionSeen) → IsMerged s w new → StandsFor r p (after_merge made) new
  stands-merge w new m =
      let shape : new.table.shape ≡ s.table.shape = m.taken.shape.0 in
      let rows : spilled_all r.query made.merged ++ joined_rows s.waiting ≡ spilled_all r.query (made.merged ++ joined_lists made.waiting) =
      ap (λ (l : List SpillRow). spilled_all r.query made.merged ++ l) (waiting-rows r.query made.waiting s.waiting at.waiting) ∙ sym (map-append (spilled (key_types r.query)) made.merged (joined_lists made.waiting)) in
      record {
        merged = subst (λ (x : Shape). Holds x.prototypes new.table.groups (spilled_all r.query (made.merged ++ joined_lists made.waiting))) (sym shape)
            (subst (Holds s.table.shape.prototypes new.table.groups) rows (m.taken.holds (spilled_all r.query made.merged) at.merged));
        waiting = ap (λ (x : PartitionSeen). x.waiting) m.others;
        marks = ap (λ (x : PartitionSeen). x.marks) m.others ∙ at.marks;
        held = ap (λ (x : PartitionSeen). x.store.held) m.others ∙ at.held;
        told = ap (λ (x : PartitionSeen). x.store.told) m.others ∙ at.told;
        arrived =
            let same : new.arrived ≡ s.arrived = ap (λ (x : PartitionSeen). x.arrived) m.others in
            omega (arith, same, at.arrived, count-rows made.merged made.waiting made.frames, count-rows (made.merged ++ joined_lists made.waiting) [] made.frames, length-append made.merged (joined_lists made.waiting));
      }

  -- what waited was put as a frame, or stays
  pub stands-dump : (w limit : ℕ) (new : PartitionSeen) → s.table.shape ≡ shape_of r.query → IsDumped limit s w new → StandsFor r p (after_dump limit made) new
  stands-dump w limit new shape d =
      let long : length s.waiting ≡ length made.waiting = ap (λ (l : List Payload). length l) at.waiting ∙ length-map made.waiting (payload_of (key_types r.query)) in
      by (nat_lt limit (length made.waiting)) (ap (λ n. nat_lt limit n) long)
    where
      table : new.table ≡ s.table
      table = ap (λ (x : PartitionSeen). x.table) d.others

      merged : Holds new.table.shape.prototypes new.table.groups (spilled_all r.query made.merged)
      merged = subst (λ (t : Table). Holds t.shape.prototypes t.groups (spilled_all r.query made.merged)) (sym table) at.merged

      same : new.arrived ≡ s.arrived
      same = ap (λ (x : PartitionSeen). x.arrived) d.others

      count : length (joined_rows s.waiting) ≡ length (joined_lists made.waiting)
      count = waiting-count r.query made.waiting s.waiting at.waiting

      frame : frame_bytes s.table.shape.input_types (joined_rows s.waiting) ≡ frame_bytes_of r.query (joined_lists made.waiting)
      frame = ap (λ (x : Shape). frame_bytes x.input_types (joined_rows s.waiting)) shape ∙ ap (frame_bytes (input_types r.query)) (waiting-rows r.query made.waiting s.waiting at.waiting)

      mark : next_mark s.store s.waiting ≡ record { number = (store_of r p).held + length made.frames; rows = length (joined_lists made.waiting) }
      mark = rw (at.held, count) refl

      by : (b : Bool) → puts limit s.waiting ≡ b → StandsFor r p (if b then record made { frames = made.frames ++ joined_lists made.waiting ∷ []; waiting = [] } else made) new
      by true e = record {
        merged = merged;
        waiting = ap (λ (x : PartitionSeen). x.waiting) d.others ∙ ap (λ (c : Bool). if c then [] else s.waiting) e;
        marks =
            ap (λ (x : PartitionSeen). x.marks) d.others
            ∙ ap (λ (c : Bool). if c then s.marks ++ next_mark s.store s.waiting ∷ [] else s.marks) e
            ∙ ap (λ (l : List Mark). l ++ next_mark s.store s.waiting ∷ []) at.marks
            ∙ ap (λ (m : Mark). marks_from (store_of r p).held made.frames ++ m ∷ []) mark
            ∙ sym (marks-push (store_of r p).held made.frames (joined_lists made.waiting));
        held =
            let now : new.store.held ≡ s.store.held + 1 = d.store.held ∙ ap (λ (c : Bool). if c then s.store.held + 1 else s.store.held) e in
            omega (arith, now, at.held, length-append made.frames (joined_lists made.waiting ∷ []));
        told =
            d.store.told
            ∙ ap (λ (c : Bool). if c then with_frame s.store.told (frame_bytes s.table.shape.input_types (joined_rows s.waiting)) else s.store.told) e
            ∙ ap (λ (f : List ℕ). with_frame s.store.told f) frame
            ∙ ap (λ (o : Option (List (List ℕ))). with_frame o (frame_bytes_of r.query (joined_lists made.waiting))) at.told
            ∙ frames-push (store_of r p).told (map (frame_bytes_of r.query) made.frames) (frame_bytes_of r.query (joined_lists made.waiting))
            ∙ ap (with_frames (store_of r p).told) (sym (map_push (frame_bytes_of r.query) made.frames (joined_lists made.waiting)));
        arrived = omega (arith, same, at.arrived, count-rows made.merged made.waiting made.frames, count-rows made.merged [] (made.frames ++ joined_lists made.waiting ∷ []), count-push made.frames (joined_lists made.waiting));
      }
      by false e = record {
        merged = merged;
        waiting = ap (λ (x : PartitionSeen). x.waiting) d.others ∙ ap (λ (c : Bool). if c then [] else s.waiting) e ∙ at.waiting;
        marks = ap (λ (x : PartitionSeen). x.marks) d.others ∙ ap (λ (c : Bool). if c then s.marks ++ next_mark s.store s.waiting ∷ [] else s.marks) e ∙ at.marks;
        held = d.store.held ∙ ap (λ (c : Bool). if c then s.store.held + 1 else s.store.held) e ∙ at.held;
        told = d.store.told ∙ ap (λ (c : Bool). if c then with_frame s.store.told (frame_bytes s.table.shape.input_types (joined_rows s.waiting)) else s.store.told) e ∙ at.told;
        arrived = same ∙ at.arrived;
      }

  -- all is as before, but for room and faults
  pub stands-kept : (failed : Bool) (new : PartitionSeen) → IsKeptBut s new failed → StandsFor r p made new
  stands-kept failed new k =
      let shape : new.table.shape ≡ s.table.shape = k.table.shape.0 in
      record {
        merged = subst (λ (x : Shape). Holds x.prototypes new.table.groups (spilled_all r.query made.merged)) (sym shape)
            (holds-same s.table.shape.prototypes s.table.groups new.table.groups (spilled_all r.query made.merged) k.table.held at.merged);
        waiting = ap (λ (x : PartitionSeen). x.waiting) k.others ∙ at.waiting;
        marks = ap (λ (x : PartitionSeen). x.marks) k.others ∙ at.marks;
        held = k.store.held ∙ at.held;
        told = k.store.told ∙ at.told;
        arrived = ap (λ (x : PartitionSeen). x.arrived) k.others ∙ at.arrived;
      }
