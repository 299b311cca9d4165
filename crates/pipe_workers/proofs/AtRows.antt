-- A worker takes one row more.
use Rattle.std.proofs.Common.{◌≡◌, ◌≢◌, ◌∙◌, ◌+◌, ◌-◌, ◌/◌, ◌*◌, ◌%◌, ◌≤◌, ◌<◌, ◌==◌, ◌&&◌, ◌||◌, ◌^◌, ℕ, Bool, true, false, not, List, [], ◌∷◌, ◌++◌, Option, Some, None, length, map, set, get_or, take, drop, slice_get, refl, sym, ap, subst, arith, length-append, append_assoc}
use Rattle.std.specs.Prelude.{if◌then◌else◌, nat_le, nat_lt}
use Rattle.std.specs.List.{All}
use Rattle.std.specs.Set.{is_member}
use Rattle.std.proofs.lemmas.Bool.{false≢true}
use Rattle.std.proofs.lemmas.Bool.Decides.{nat_tests}
use Rattle.std.proofs.lemmas.List.{get_or-set_other, get_or-set_same, length-map, map-append}
use Rattle.std.proofs.lemmas.List.Elements.{All-head}
use Rattle.std.proofs.lemmas.List.FromFn.{get_or-map-range_with_len, length-map-range_with_len}
use Rattle.std.proofs.Math.Nat.{mod-lt}
use Rattle.pipe_columns.specs.Key.{fold_bytes}
use Rattle.pipe_columns.specs.Row.{Row}
use Rattle.pipe_aggs.specs.CheckedQuery.{input_types}
use Rattle.pipe_model.specs.Output.{key_types}
use Rattle.pipe_model.specs.Rows.{keys_of}
use Rattle.pipe_plan.specs.declared.event.PartitionEvent.TheVariants as event
use Rattle.pipe_plan.specs.Kept.{is_kept, kept_keys, same_key}
use Rattle.pipe_plan.specs.Overflow.{overflows, partition_of}
use Rattle.pipe_plan.specs.Payloads.{rest_of}
use Rattle.pipe_plan.specs.Plan.{plan}
use Rattle.pipe_plan.specs.Progress.{events_made, FillsPiece, IsAtRow, sent_of}
use Rattle.pipe_plan.specs.Replay.{next_piece}
use Rattle.pipe_plan.specs.Rounds.{IsFront}
use Rattle.pipe_plan.specs.Run.{of_worker, Run}
use Rattle.pipe_plan.proofs.AtRow.{arrival-filled, kept-row, made-filled, made-unfilled, piece-arrives, rows-split}
use Rattle.pipe_plan.proofs.Filtering.{filter-within}
use Rattle.pipe_plan.proofs.Longer.{kept-decided, keys-has}
use Rattle.pipe_spill.specs.SpillRow.{HasValues, Payload, payload_of, spilled}
use Rattle.pipe_spill.specs.declared.spill_row.SpillRow.{SpillRow}
use Rattle.pipe_groups.specs.Shape.{shape_of}
use Rattle.pipe_tables.specs.After.{goes_to, IsAfter, is_kept_of, spilled_to, waiting_of}
use Rattle.pipe_tables.specs.Buffers.{buffer_of, fills, leaving, rows_with, waiting_in}
use Rattle.pipe_tables.specs.LocalTable.{keeps, let_go, Local, local_with_row}
use Rattle.pipe_tables.proofs.AfterFacts.{after-row}
use Rattle.pipe_tables.proofs.HeldKeys.{keeps-stays}
use Rattle.pipe_global.specs.Next.{next_event, next_payload}
use Rattle.pipe_global.specs.Partition.{spilled_all}
use Rattle.pipe_global.specs.Shares.{raised, share_of, SharesSeen}
use Rattle.pipe_global.proofs.Covering.{all-left, all-right}
use Rattle.pipe_global.proofs.RunFacts.{length-kept}
use Rattle.pipe_workers.specs.Steps.{IsInTurn}
use Rattle.pipe_workers.specs.Workers.{TakesTurns}
use Rattle.pipe_workers.proofs.Standing.{has-shape, worker-typed}

-- a share that is raised, and another one
pub raised-own : (s : SharesSeen) (p : ℕ) → p < length s.events → share_of (raised s p) p ≡ share_of s p + 1
raised-own s p lt = get_or-set_same s.events p (share_of s p + 1) 0 lt

pub raised-other : (s : SharesSeen) (p q : ℕ) → q ≢ p → share_of (raised s p) q ≡ share_of s q
raised-other s p q other = get_or-set_other s.events p q (share_of s p + 1) 0 other

-- two pairs that are one have one first and one second part
same-parts : (a c : ℕ) (b d : List SpillRow) (x y : Option (ℕ × List SpillRow)) → x ≡ Some (a, b) → y ≡ Some (c, d) → x ≡ y → (a ≡ c) × (b ≡ d)
same-parts a c b d x y first second same =
    let pairs : ◌≡◌ {A = ℕ × List SpillRow} (a, b) (c, d) = cc in
    (ap (λ (e : ℕ × List SpillRow). e.0) pairs, ap (λ (e : ℕ × List SpillRow). e.1) pairs)

-- a row that leaves with those before it: where, that it fills a piece, and which rows leave
pub record Leaves (r : Run) (w i : ℕ) (taken : List Row) (x : Row) (p : ℕ) (rows : List SpillRow) : Type 0 where
  pub there : p < r.limits.partitions
  pub own : partition_of r x ≡ p
  pub fills : FillsPiece r w p i taken x
  pub rows_are : rows ≡ spilled_all r.query (rest_of r.limits.buffer_size (sent_of r w p taken) ++ x ∷ [])

module _ (r : Run) (w i : ℕ) (taken : List Row) (x : Row) (t : Local) (s : SharesSeen) (takes : TakesTurns r) (at : IsAtRow r w i taken x) (here : IsInTurn r w i taken t s) where
  abbrev row : SpillRow
  row = spilled (key_types r.query) x

  front : IsFront (taken ++ x ∷ []) (of_worker r w)
  front = rows-split r w i taken x at

  -- the rows taken and this one are of the run's types, and few
  all-more : All (HasValues (key_types r.query) (input_types r.query)) (taken ++ x ∷ [])
  all-more =
      all-left (HasValues (key_types r.query) (input_types r.query)) (taken ++ x ∷ []) front.rest
      (subst (All (HasValues (key_types r.query) (input_types r.query))) front.is (worker-typed r w takes))

  pub all-taken : All (HasValues (key_types r.query) (input_types r.query)) taken
  all-taken = all-left (HasValues (key_types r.query) (input_types r.query)) taken (x ∷ []) all-more

  pub row-typed : HasValues (key_types r.query) (input_types r.query) x
  row-typed = All-head (HasValues (key_types r.query) (input_types r.query)) x [] (all-right (HasValues (key_types r.query) (input_types r.query)) taken (x ∷ []) all-more)

  pub taken-few : length taken + 1 < 2 ^ 32
  taken-few =
      let all : length (of_worker r w) ≡ length ((taken ++ x ∷ []) ++ front.rest) = ap (λ (l : List Row). length l) front.is in
      omega (arith, all, length-append (taken ++ x ∷ []) front.rest, length-append taken (x ∷ []), length-kept (λ (y : Row). Rattle.pipe_plan.specs.Run.is_turn_of r w y.place.chunk) (Rattle.pipe_plan.specs.Run.all_rows r), takes.runnable.few)

  -- the table keeps the row exactly where the worker does
  keeps-is : keeps row t ≡ is_kept r w x
  keeps-is =
      keeps-stays r.limits (shape_of r.query) taken x t takes.generic all-taken row-typed here.table
      ∙ ap (λ b. is_member same_key (kept_keys r.limits taken) x.key || b) (at_most (length (kept_keys r.limits taken)) r.limits.spill_size)
      ∙ sym (kept-row r w i taken x at takes.generic)
    where
      at_most : (a b : ℕ) → nat_le a b ≡ nat_lt a (b + 1)
      at_most a b = grind (arith, nat_tests)

  -- what was spilled of the rows taken is what the worker sends of them
  sent-is : (p : ℕ) → spilled_to r.limits (key_types r.query) p taken ≡ spilled_all r.query (sent_of r w p taken)
  sent-is p =
      ap (λ (l : List Row). map (spilled (key_types r.query)) l)
      (filter-within (goes_to r.limits (key_types r.query) taken p) (overflows r w p) taken (λ a b y is. ap (λ b. (partition_of r y == p) && not b) (good a b y is)))
    where
      rest : List Row
      rest = x ∷ front.rest

      all : of_worker r w ≡ taken ++ rest
      all = front.is ∙ append_assoc taken (x ∷ []) front.rest

      good : (a b : List Row) (y : Row) → taken ≡ a ++ y ∷ b → is_kept_of r.limits taken y ≡ is_kept r w y
      good a b y is =
          sym (kept-decided r.limits taken rest y.key (ap (λ (l : List Row). is_member same_key (keys_of l) y.key) is ∙ keys-has a b y))
          ∙ ap (λ (l : List Row). is_member same_key (kept_keys r.limits l) y.key) (sym all)

  -- ---- the buffers

  buffers-count : length t.buffers.rows ≡ r.limits.partitions
  buffers-count = ap (λ (l : List (List SpillRow)). length l) here.table.waits ∙ length-map-range_with_len (waiting_of r.limits (key_types r.query) taken) 0 r.limits.partitions

  buffer-is : buffer_of row.key t.buffers ≡ partition_of r x
  buffer-is = ap (λ n. fold_bytes row.key % n) buffers-count

  partition-there : partition_of r x < r.limits.partitions
  partition-there = mod-lt (fold_bytes row.key) takes.runnable.limits.partitions

  rest-is : (p : ℕ) → rest_of r.limits.buffer_size (spilled_all r.query (sent_of r w p taken)) ≡ spilled_all r.query (rest_of r.limits.buffer_size (sent_of r w p taken))
  rest-is p = rest-map r.limits.buffer_size (sent_of r w p taken)
    where
      drop-map : (n : ℕ) (ys : List Row) → drop n (map (spilled (key_types r.query)) ys) ≡ map (spilled (key_types r.query)) (drop n ys)
      drop-map Rattle.std.proofs.Common.zero ys = refl
      drop-map (Rattle.std.proofs.Common.suc n) [] = refl
      drop-map (Rattle.std.proofs.Common.suc n) (y ∷ ys) = drop-map n ys

      rest-map : (n : ℕ) (ys : List Row) → rest_of n (map (spilled (key_types r.query)) ys) ≡ map (spilled (key_types r.query)) (rest_of n ys)
      rest-map n ys = ap (λ k. drop (k / n * n) (map (spilled (key_types r.query)) ys)) (length-map ys (spilled (key_types r.query))) ∙ drop-map (length ys / n * n) ys

  -- what waits in the row's partition, and the row
  waits-is : waiting_in (partition_of r x) t.buffers ≡ spilled_all r.query (rest_of r.limits.buffer_size (sent_of r w (partition_of r x) taken))
  waits-is =
      ap (λ (l : List (List SpillRow)). get_or l (partition_of r x) []) here.table.waits
      ∙ get_or-map-range_with_len (waiting_of r.limits (key_types r.query) taken) 0 r.limits.partitions (partition_of r x) (partition_of r x) [] partition-there (omega arith)
      ∙ ap (λ (l : List SpillRow). rest_of r.limits.buffer_size l) (sent-is (partition_of r x))
      ∙ rest-is (partition_of r x)

  with-is : rows_with row t.buffers ≡ spilled_all r.query (rest_of r.limits.buffer_size (sent_of r w (partition_of r x) taken) ++ x ∷ [])
  with-is =
      ap (λ p. waiting_in p t.buffers ++ row ∷ []) buffer-is
      ∙ ap (λ (l : List SpillRow). l ++ row ∷ []) waits-is
      ∙ sym (map-append (spilled (key_types r.query)) (rest_of r.limits.buffer_size (sent_of r w (partition_of r x) taken)) (x ∷ []))

  with-count : length (rows_with row t.buffers) ≡ length (rest_of r.limits.buffer_size (sent_of r w (partition_of r x) taken)) + 1
  with-count =
      ap (λ (l : List SpillRow). length l) with-is
      ∙ length-map (rest_of r.limits.buffer_size (sent_of r w (partition_of r x) taken) ++ x ∷ []) (spilled (key_types r.query))
      ∙ length-append (rest_of r.limits.buffer_size (sent_of r w (partition_of r x) taken)) (x ∷ [])

  -- ---- what leaves

  -- the row with those that wait before it, where they fill the buffer
  abbrev all-of-it : ℕ × List SpillRow
  all-of-it = (buffer_of row.key t.buffers, rows_with row t.buffers)

  abbrev left-if : Bool → Option (ℕ × List SpillRow)
  left-if b = if b then Some all-of-it else None

  sent-own : keeps row t ≡ false → overflows r w (partition_of r x) x ≡ true
  sent-own is =
      let same : (partition_of r x == partition_of r x) ≡ true = grind (arith, nat_tests) in
      ap (λ b. (partition_of r x == partition_of r x) && not b) (sym keeps-is ∙ is) ∙ ap (λ b. b && true) same

  -- where rows leave, they are the piece that the row fills
  pub leaves : (p : ℕ) (rows : List SpillRow) → let_go row t ≡ Some (p, rows) → Leaves r w i taken x p rows
  leaves p rows is = by (keeps row t) refl is
    where
      full : keeps row t ≡ false → (b : Bool) → fills row t.buffers ≡ b → left-if b ≡ Some (p, rows) → Leaves r w i taken x p rows
      full out true filled gone =
          let parts = same-parts (buffer_of row.key t.buffers) p (rows_with row t.buffers) rows (left-if true) (left-if true) refl gone refl in
          let there : partition_of r x ≡ p = sym buffer-is ∙ parts.0 in
          let left : rows ≡ rows_with row t.buffers = sym parts.1 in
          let size : length (rows_with row t.buffers) ≡ t.buffers.size = (let e : (length (rows_with row t.buffers) == t.buffers.size) ≡ true = filled in grind (arith, nat_tests)) in
          subst (λ q. Leaves r w i taken x q rows) there (record {
            there = partition-there;
            own = refl;
            fills = record { at = at; sent = sent-own out; full = sym with-count ∙ size ∙ here.table.size };
            rows_are = left ∙ with-is;
          })
      full out false filled gone = absurd cc

      by : (b : Bool) → keeps row t ≡ b → (if b then None else leaving row t.buffers) ≡ Some (p, rows) → Leaves r w i taken x p rows
      by true kept gone = absurd cc
      by false out gone = full out (fills row t.buffers) refl gone

  -- where none leave, the row fills no piece
  pub stays-behind : let_go row t ≡ None → (p : ℕ) → overflows r w p x ≡ true → length (rest_of r.limits.buffer_size (sent_of r w p taken)) + 1 ≢ r.limits.buffer_size
  stays-behind is p over = by (partition_of r x == p) (is_kept r w x) refl refl over
    where
      full : (b : Bool) → fills row t.buffers ≡ b → left-if b ≡ None
          → length (rest_of r.limits.buffer_size (sent_of r w (partition_of r x) taken)) + 1 ≢ r.limits.buffer_size
      full true filled none = absurd cc
      full false filled none = λ e.
          let size : length (rows_with row t.buffers) ≡ t.buffers.size = with-count ∙ e ∙ sym here.table.size in
          let yes : fills row t.buffers ≡ true = (let g : (length (rows_with row t.buffers) == t.buffers.size) ≡ true = grind (arith, nat_tests) in g) in
          false≢true (sym filled ∙ yes)

      by : (same kept : Bool) → (partition_of r x == p) ≡ same → is_kept r w x ≡ kept → (same && not kept) ≡ true → length (rest_of r.limits.buffer_size (sent_of r w p taken)) + 1 ≢ r.limits.buffer_size
      by true true at_p k e = absurd (false≢true e)
      by false kept at_p k e = absurd (false≢true e)
      by true false at_p k e =
          let own : partition_of r x ≡ p = grind (arith, nat_tests) in
          let none : leaving row t.buffers ≡ None = sym (ap (λ b. if b then None else leaving row t.buffers) (keeps-is ∙ k)) ∙ is in
          subst (λ q. length (rest_of r.limits.buffer_size (sent_of r w q taken)) + 1 ≢ r.limits.buffer_size) own (full (fills row t.buffers) refl none)

  -- ---- after the row

  table-after : IsAfter r.limits (shape_of r.query) (taken ++ x ∷ []) (local_with_row row t)
  table-after = after-row r.limits (shape_of r.query) taken x t takes.generic takes.runnable.limits all-taken row-typed here.table (has-shape r takes)

  -- no row leaves
  pub row-held : let_go row t ≡ None → IsInTurn r w i (taken ++ x ∷ []) (local_with_row row t) s
  row-held is = record {
    table = table-after;
    worker = here.worker;
    picks = here.picks;
    events = λ p lt. here.events p lt ∙ sym (made-unfilled r w i taken x at p takes.runnable.limits.buffer (stays-behind is p));
    faults = here.faults;
  }

  module _ (p : ℕ) (payload : Payload) (gone : let_go row t ≡ Some (p, payload.rows)) where
    -- its arrival is next
    pub arrival-next : next_event r s p ≡ Some (event.Arrive s.worker)
    arrival-next =
        let l = leaves p payload.rows gone in
        ap (λ n. slice_get (plan r s.worker p) n) (here.events p l.there)
        ∙ ap (λ v. slice_get (plan r v p) (events_made r w p i taken)) here.worker
        ∙ arrival-filled r w i taken x at p takes.runnable.limits.buffer l.fills.sent l.fills.full takes.generic
        ∙ ap (λ v. Some (event.Arrive v)) (sym here.worker)

    -- and brings the payload
    pub piece-next : payload ≡ next_payload r s p
    piece-next =
        let l = leaves p payload.rows gone in
        let of_rows : List SpillRow → Payload = λ rows. record { rows = rows } in
        let piece : List Row → Payload = λ rows. payload_of (key_types r.query) rows in
        ap of_rows l.rows_are
        ∙ ap piece (sym (piece-arrives r w i taken x at p takes.runnable.limits.buffer l.fills.sent l.fills.full takes.generic))
        ∙ ap (λ v. piece (next_piece r v p (take (events_made r w p i taken) (plan r v p)))) (sym here.worker)
        ∙ ap (λ n. piece (next_piece r s.worker p (take n (plan r s.worker p)))) (sym (here.events p l.there))

    -- with it the turn goes on
    pub row-sent : length s.events ≡ r.limits.partitions → IsInTurn r w i (taken ++ x ∷ []) (local_with_row row t) (raised s p)
    row-sent count =
        let l = leaves p payload.rows gone in
        record {
          table = table-after;
          worker = here.worker;
          picks = here.picks;
          events = λ q lt. by q lt l (q == p) refl;
          faults = here.faults;
        }
      where
        by : (q : ℕ) → q < r.limits.partitions → Leaves r w i taken x p payload.rows → (b : Bool) → (q == p) ≡ b → share_of (raised s p) q ≡ events_made r w q i (taken ++ x ∷ [])
        by q lt l true is =
            let same : p ≡ q = grind (arith, nat_tests) in
            subst (λ k. share_of (raised s p) k ≡ events_made r w k i (taken ++ x ∷ [])) same
            (raised-own s p (omega (arith, l.there, count))
            ∙ ap (λ n. n + 1) (here.events p l.there)
            ∙ sym (made-filled r w i taken x at p takes.runnable.limits.buffer l.fills.sent l.fills.full))
        by q lt l false is =
            let other : q ≢ p = grind (arith, nat_tests) in
            let not_own : overflows r w q x ≡ true → length (rest_of r.limits.buffer_size (sent_of r w q taken)) + 1 ≢ r.limits.buffer_size = λ over. absurd (other (sym (owner q over) ∙ l.own)) in
            raised-other s p q other ∙ here.events q lt ∙ sym (made-unfilled r w i taken x at q takes.runnable.limits.buffer not_own)
          where
            owner : (q : ℕ) → overflows r w q x ≡ true → partition_of r x ≡ q
            owner q over = own (partition_of r x == q) refl over where
              own : (b : Bool) → (partition_of r x == q) ≡ b → (b && not (is_kept r w x)) ≡ true → partition_of r x ≡ q
              own true is e = grind (arith, nat_tests)
              own false is e = absurd (false≢true e)
