-- What a worker does at a row: it keeps the key, waits for a full piece, or sends one.
use Rattle.std.proofs.Common.{◌≡◌, ◌≢◌, ℕ, ◌+◌, ◌-◌, ◌/◌, ◌<◌, ◌≤◌, Bool, true, false, ◌||◌, List, [], ◌∷◌, ◌++◌, length, take, drop, Some, slice_get, ap, sym, ◌∙◌, arith, append_assoc, length-append, ⊎_elim}
use Rattle.std.specs.Prelude.{if◌then◌else◌, nat_lt}
use Rattle.std.specs.List.{slice_index_or}
use Rattle.std.specs.Set.{is_member}
use Rattle.std.proofs.lemmas.Bool.{cases_Bool}
use Rattle.std.proofs.lemmas.List.{append-nil, map-append}
use Rattle.std.proofs.lemmas.List.Elements.{filter-append}
use Rattle.std.proofs.lemmas.Option.{slice_get_within}
use Rattle.std.proofs.Math.Seq.{get_or-append_seam}
use Rattle.pipe_columns.specs.declared.any_value.AnyValue.{AnyValue}
use Rattle.pipe_columns.specs.Pieces.{pieces}
use Rattle.pipe_columns.specs.Row.{Row}
use Rattle.pipe_model.specs.Rows.{keys_of}
use Rattle.pipe_plan.specs.Rounds.{IsFront, run_until}
use Rattle.pipe_plan.specs.declared.event.PartitionEvent.TheVariants as event
use Rattle.pipe_plan.specs.Kept.{distinct, first_distinct, is_kept, kept_keys, same_key}
use Rattle.pipe_plan.specs.Overflow.{overflow, overflows}
use Rattle.pipe_plan.specs.Payloads.{full_pieces, payloads, rest_of}
use Rattle.pipe_plan.specs.Plan.{events_before, full_before, plan, sent_before}
use Rattle.pipe_plan.specs.Progress.{events_made, IsAtRow, sent_of}
use Rattle.pipe_plan.specs.Replay.{arrivals, next_piece}
use Rattle.pipe_plan.specs.Run.{is_generic, of_worker, Run}
use Rattle.pipe_plan.proofs.Cutting.{div-filled, div-mono, div-unfilled, full-append, full-filled, last_piece, length-full, length-rest, pieces-full_rest}
use Rattle.pipe_plan.proofs.Filtering.{filter-no, filter-yes}
use Rattle.pipe_plan.proofs.Keeping.{held-row}
use Rattle.pipe_plan.proofs.Longer.{keys_exact, more_rows}
use Rattle.pipe_plan.proofs.NextEvent.{arrivals-made, fills, front-trans, next-arrival}
use Rattle.pipe_plan.proofs.Reaching.{overflow-until, sent-until, worker-front, worker-yes}

-- ---- pieces

-- full pieces are a front of all that are sent
pub payloads-full : (r : Run) (w p : ℕ) → 0 < r.limits.buffer_size → IsFront (full_pieces r.limits.buffer_size (overflow r w p)) (payloads r w p)
payloads-full r w p some =
    let b = r.limits.buffer_size in
    let rows = overflow r w p in
    elim r.is_open as (λ (o : Bool). IsFront (full_pieces b rows) (if o then full_pieces b rows else pieces b rows)) [
      | true ↦ record { rest = []; is = sym (append-nil (full_pieces b rows)) }
      | false ↦ record { rest = last_piece (rest_of b rows); is = pieces-full_rest b rows some }
    ]

-- the piece that an element fills stands behind those before it
pub piece-filled : {A : Type 0} (n : ℕ) (xs ys : List A) (x : A) → 0 < n → length (rest_of n xs) + 1 ≡ n
    → IsFront (full_pieces n xs ++ (rest_of n xs ++ x ∷ []) ∷ []) (full_pieces n (xs ++ x ∷ ys))
piece-filled {A = A} n xs ys x some is = record {
  rest = full_pieces n (rest_of n (xs ++ x ∷ []) ++ ys);
  is =
      ap (λ (l : List A). full_pieces n l) (sym (append_assoc xs (x ∷ []) ys))
      ∙ full-append n (xs ++ x ∷ []) ys some
      ∙ ap (λ (ps : List (List A)). ps ++ full_pieces n (rest_of n (xs ++ x ∷ []) ++ ys)) (full-filled n xs x some is);
}

-- the element behind a front stands at its length
pub get-front : {A : Type 0} (front xs : List A) (x d : A) (k : ℕ) → IsFront (front ++ x ∷ []) xs → k ≡ length front → slice_index_or xs k d ≡ x
get-front {A = A} front xs x d k f is =
    ap (λ (l : List A). slice_index_or l k d) (f.is ∙ append_assoc front (x ∷ []) f.rest)
    ∙ ap (λ i. slice_index_or (front ++ x ∷ f.rest) i d) is
    ∙ get_or-append_seam front x f.rest d

-- ---- where the row stands

module _ (r : Run) (w i : ℕ) (taken : List Row) (x : Row) (at : IsAtRow r w i taken x) where
  -- the position is one of a chunk
  in-chunks : i < length r.chunks
  in-chunks = slice_get_within r.chunks i at.chunk at.at

  -- with this turn the worker takes the rows taken, this one, and those behind
  rows-reached : of_worker (run_until r (i + 1)) w ≡ taken ++ x ∷ at.back
  rows-reached =
      worker-yes r w i at.chunk at.at at.turn
      ∙ ap (λ (l : List Row). of_worker (run_until r i) w ++ l) at.rows
      ∙ sym (append_assoc (of_worker (run_until r i) w) at.front (x ∷ at.back))
      ∙ ap (λ (l : List Row). l ++ x ∷ at.back) (sym at.taken_is)

  -- all rows of the worker: those taken, the row, and others
  pub rows-split : IsFront (taken ++ x ∷ []) (of_worker r w)
  rows-split =
      let later = more_rows (run_until r (i + 1)) w (drop (i + 1) r.chunks) in
      record {
        rest = at.back ++ later;
        is =
            worker-front r w (i + 1)
            ∙ ap (λ (l : List Row). l ++ later) rows-reached
            ∙ append_assoc taken (x ∷ at.back) later
            ∙ sym (append_assoc taken (x ∷ []) (at.back ++ later));
      }

  -- a generic worker keeps the key exactly where it is held or there is room for it
  pub kept-row : is_generic r.limits.sink ≡ true
      → is_kept r w x ≡ (is_member same_key (kept_keys r.limits taken) x.key || nat_lt (length (kept_keys r.limits taken)) (r.limits.spill_size + 1))
  kept-row generic =
      let n = r.limits.spill_size + 1 in
      let first : (rows : List Row) → kept_keys r.limits rows ≡ first_distinct same_key n (keys_of rows) = λ rows. ap (λ b. if b then first_distinct same_key n (keys_of rows) else distinct same_key (keys_of rows)) generic in
      let key : Row → List AnyValue = λ x. x.key in
      let all : keys_of (of_worker r w) ≡ keys_of taken ++ x.key ∷ keys_of rows-split.rest =
      ap keys_of (rows-split.is ∙ append_assoc taken (x ∷ []) rows-split.rest) ∙ map-append key taken (x ∷ rows-split.rest) in
      ap (λ (ks : List (List AnyValue)). is_member same_key ks x.key) (first (of_worker r w) ∙ ap (λ (ks : List (List AnyValue)). first_distinct same_key n ks) all)
      ∙ held-row same_key keys_exact n (keys_of taken) (keys_of rows-split.rest) x.key
      ∙ sym (ap (λ (ks : List (List AnyValue)). is_member same_key ks x.key || nat_lt (length ks) n) (first taken))

  module _ (p : ℕ) (some : 0 < r.limits.buffer_size) where
    -- no fewer rows are sent than before the turn
    sent-low : sent_before r w p i ≤ length (sent_of r w p taken)
    sent-low =
        let parts = ap (λ (l : List Row). length (sent_of r w p l)) at.taken_is ∙ ap (λ (l : List Row). length l) (filter-append (overflows r w p) (of_worker (run_until r i) w) at.front) in
        let before = sent-until r i w p (omega (arith, in-chunks)) ∙ ap (λ (l : List Row). length l) (overflow-until r i w p) in
        omega (arith, parts, before, length-append (sent_of r w p (of_worker (run_until r i) w)) (sent_of r w p at.front))

    -- and with the row no more than at its end
    sent-high : overflows r w p x ≡ true → length (sent_of r w p taken) + 1 ≤ sent_before r w p (i + 1)
    sent-high over =
        let after = sent-until r (i + 1) w p (omega (arith, in-chunks)) ∙ ap (λ (l : List Row). length l) (overflow-until r (i + 1) w p ∙ ap (sent_of r w p) rows-reached ∙ filter-append (overflows r w p) taken (x ∷ at.back) ∙ ap (λ (l : List Row). sent_of r w p taken ++ l) (filter-yes (overflows r w p) x at.back over)) in
        omega (arith, after, length-append (sent_of r w p taken) (x ∷ sent_of r w p at.back))

    -- no fewer pieces are full than before the turn
    full-low : full_before r w p i ≤ length (sent_of r w p taken) / r.limits.buffer_size
    full-low = div-mono (sent_before r w p i) (length (sent_of r w p taken)) r.limits.buffer_size some sent-low

    -- the row is sent, or not
    sent-yes : overflows r w p x ≡ true → length (sent_of r w p (taken ++ x ∷ [])) ≡ length (sent_of r w p taken) + 1
    sent-yes over =
        ap (λ (l : List Row). length l) (filter-append (overflows r w p) taken (x ∷ []) ∙ ap (λ (l : List Row). sent_of r w p taken ++ l) (filter-yes (overflows r w p) x [] over))
        ∙ length-append (sent_of r w p taken) (x ∷ [])

    -- a row that is kept, or of another partition
    sent-no : overflows r w p x ≡ false → length (sent_of r w p (taken ++ x ∷ [])) ≡ length (sent_of r w p taken)
    sent-no not_over =
        ap (λ (l : List Row). length l) (filter-append (overflows r w p) taken (x ∷ []) ∙ ap (λ (l : List Row). sent_of r w p taken ++ l) (filter-no (overflows r w p) x [] not_over) ∙ append-nil (sent_of r w p taken))

    -- ---- a row that fills no piece

    -- it makes no event
    pub made-unfilled : (overflows r w p x ≡ true → length (rest_of r.limits.buffer_size (sent_of r w p taken)) + 1 ≢ r.limits.buffer_size)
        → events_made r w p i (taken ++ x ∷ []) ≡ events_made r w p i taken
    made-unfilled not_full = ⊎_elim
        (λ over. ap (λ k. length (events_before r w p i) + (k - full_before r w p i))
        (ap (λ k. k / r.limits.buffer_size) (sent-yes over)
        ∙ div-unfilled (length (sent_of r w p taken)) r.limits.buffer_size some (λ is. not_full over (omega (arith, is, length-rest r.limits.buffer_size (sent_of r w p taken) some)))))
        (λ not_over. ap (λ k. length (events_before r w p i) + (k / r.limits.buffer_size - full_before r w p i)) (sent-no not_over))
        (cases_Bool (overflows r w p x))

    -- ---- a row that fills one

    module _ (over : overflows r w p x ≡ true) (filled : length (rest_of r.limits.buffer_size (sent_of r w p taken)) + 1 ≡ r.limits.buffer_size) where
      -- one piece more is full
      one_more : (length (sent_of r w p taken) + 1) / r.limits.buffer_size ≡ length (sent_of r w p taken) / r.limits.buffer_size + 1
      one_more = div-filled (length (sent_of r w p taken)) r.limits.buffer_size some (omega (arith, filled, length-rest r.limits.buffer_size (sent_of r w p taken) some))

      -- the turn has an arrival left
      few : length (sent_of r w p taken) / r.limits.buffer_size - full_before r w p i < fills r w p i
      few = omega (arith, one_more, full-low, div-mono (length (sent_of r w p taken) + 1) (sent_before r w p (i + 1)) r.limits.buffer_size some (sent-high over))

      -- it makes one event
      pub made-filled : events_made r w p i (taken ++ x ∷ []) ≡ events_made r w p i taken + 1
      made-filled = ap (λ k. length (events_before r w p i) + (k - full_before r w p i)) (ap (λ k. k / r.limits.buffer_size) (sent-yes over) ∙ one_more) ∙ omega (arith, full-low)

      -- its arrival is the next event
      pub arrival-filled : is_generic r.limits.sink ≡ true → slice_get (plan r w p) (events_made r w p i taken) ≡ Some (event.Arrive w)
      arrival-filled generic = next-arrival r w p i (length (sent_of r w p taken) / r.limits.buffer_size - full_before r w p i) generic in-chunks at.turn few

      -- and brings the rest with the row
      pub piece-arrives : is_generic r.limits.sink ≡ true
          → next_piece r w p (take (events_made r w p i taken) (plan r w p)) ≡ rest_of r.limits.buffer_size (sent_of r w p taken) ++ x ∷ []
      piece-arrives generic =
          let b = r.limits.buffer_size in
          let rows : overflow r w p ≡ sent_of r w p taken ++ x ∷ sent_of r w p rows-split.rest =
          ap (sent_of r w p) (rows-split.is ∙ append_assoc taken (x ∷ []) rows-split.rest) ∙ filter-append (overflows r w p) taken (x ∷ rows-split.rest)
          ∙ ap (λ (l : List Row). sent_of r w p taken ++ l) (filter-yes (overflows r w p) x rows-split.rest over) in
          let full = full_pieces b (sent_of r w p taken) in
          let piece = rest_of b (sent_of r w p taken) ++ x ∷ [] in
          let first : IsFront (full ++ piece ∷ []) (full_pieces b (overflow r w p)) = (let f = piece-filled b (sent_of r w p taken) (sent_of r w p rows-split.rest) x some filled in record { rest = f.rest; is = ap (λ (l : List Row). full_pieces b l) rows ∙ f.is }) in
          get-front full (payloads r w p) piece [] (arrivals (take (events_made r w p i taken) (plan r w p)))
          (front-trans (full ++ piece ∷ []) (full_pieces b (overflow r w p)) (payloads r w p) first (payloads-full r w p some))
          (arrivals-made r w p i (length (sent_of r w p taken) / b - full_before r w p i) some generic in-chunks at.turn (omega (arith, few)) ∙ omega (arith, full-low, length-full b (sent_of r w p taken) some))
