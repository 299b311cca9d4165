-- A run over more chunks keeps the events of the shorter one's turns.
use Rattle.std.proofs.Common.{◌≡◌, ℕ, ◌+◌, ◌-◌, ◌/◌, ◌%◌, ◌<◌, ◌≤◌, ◌==◌, Bool, ◌&&◌, List, [], ◌∷◌, ◌++◌, length, map, refl, ap, ◌∙◌, arith}
use Rattle.std.specs.Prelude.{if◌then◌else◌, nat_lt, count_by, replicate}
use Rattle.std.specs.List.{AllByRecursion, filter, flat_map, range_with_len, slice_index_or}
use Rattle.std.proofs.lemmas.Bool.{le-ltb, lt-ltb}
use Rattle.std.proofs.lemmas.List.{get_or_append_left, length-map, map-append}
use Rattle.std.proofs.lemmas.List.Elements.{filter-append}
use Rattle.pipe_columns.specs.declared.data_chunk.DataChunk.{DataChunk}
use Rattle.pipe_columns.specs.Row.{Row}
use Rattle.pipe_model.specs.Rows.{rows_from}
use Rattle.pipe_model.proofs.CountFacts.{count-append}
use Rattle.pipe_plan.proofs.Longer.{longer_run}
use Rattle.pipe_plan.specs.declared.event.PartitionEvent.{PartitionEvent}
use Rattle.pipe_plan.specs.declared.event.PartitionEvent.TheVariants as event
use Rattle.pipe_plan.specs.Overflow.{overflow}
use Rattle.pipe_plan.specs.Plan.{action_at, asks, events_before, events_of, height_at, is_pick, picks_before, sent_before, turn_events, turns_before}
use Rattle.pipe_plan.specs.Run.{is_turn_of, Run, StoreSeen}
use Rattle.pipe_plan.proofs.ChunkRows.{each-at, each-filter, range-append, range-before, rows-before, rows-behind}
use Rattle.pipe_plan.proofs.Filtering.{count-all, count-none, count-within}
use Rattle.pipe_plan.proofs.Longer.{more_overflow, overflow-later}

-- ---- turns

-- the turns before a position, then those up to another
pub turns-append : (r : Run) (w n m : ℕ) → turns_before r w (n + m) ≡ turns_before r w n ++ filter (is_turn_of r w) (range_with_len (0 + n) m)
turns-append r w n m =
    ap (λ (l : List ℕ). filter (is_turn_of r w) l) (range-append 0 n m) ∙ filter-append (is_turn_of r w) (range_with_len 0 n) (range_with_len (0 + n) m)

-- turns before a position stand before it
pub turns-before : (r : Run) (w n : ℕ) (front back : List ℕ) (i : ℕ) → turns_before r w n ≡ front ++ i ∷ back → i < n
turns-before r w n front back i is =
    let lt : i < 0 + n = each-at (λ i. i < 0 + n) (turns_before r w n) front back i (each-filter (λ i. i < 0 + n) (is_turn_of r w) (range_with_len 0 n) (range-before 0 n)) is in
    omega arith

-- lists made of the elements alike are joined alike
pub flat_map-within : {A B : Type 0} (f g : A → List B) (xs : List A) → ((front back : List A) (x : A) → xs ≡ front ++ x ∷ back → f x ≡ g x) → flat_map f xs ≡ flat_map g xs
flat_map-within f g [] same = refl
flat_map-within {A = A} {B = B} f g (x ∷ xs) same =
    ap (λ (l : List B). l ++ flat_map f xs) (same [] xs x refl)
    ∙ ap (λ (l : List B). g x ++ l) (flat_map-within f g xs (λ front back y is. same (x ∷ front) back y (ap (λ (l : List A). x ∷ l) is)))

module _ (r : Run) (o : Bool) (chunks : List DataChunk) (stores : List StoreSeen) where
  -- a chunk has its height
  pub height-later : (i : ℕ) → i < length r.chunks → height_at (longer_run r o chunks stores) i ≡ height_at r i
  height-later i lt =
      let heights : List DataChunk → List ℕ = λ cs. map (λ c. c.frame.height) cs in
      ap (λ (l : List ℕ). slice_index_or l i 0) (map-append (λ (c : DataChunk). c.frame.height) r.chunks chunks)
      ∙ get_or_append_left (heights r.chunks) (heights chunks) 0 i (omega (arith, lt, length-map r.chunks (λ (c : DataChunk). c.frame.height)))

  -- a pick is one
  pub pick-later : (i : ℕ) → i < length r.chunks → is_pick (longer_run r o chunks stores) i ≡ is_pick r i
  pick-later i lt = ap (λ h. nat_lt 0 h && asks (action_at r i)) (height-later i lt)

  -- as many are
  pub picks-later : (w n : ℕ) → n ≤ length r.chunks → picks_before (longer_run r o chunks stores) w n ≡ picks_before r w n
  picks-later w n le =
      count-within (is_pick (longer_run r o chunks stores)) (is_pick r) (turns_before r w n)
      (λ front back i is. pick-later i (omega (arith, le, turns-before r w n front back i is)))

  -- what is sent of the chunks before a position is so later too
  pub sent-later : (w p n : ℕ) → n ≤ length r.chunks → sent_before (longer_run r o chunks stores) w p n ≡ sent_before r w p n
  sent-later w p n le =
      let test : Row → Bool = λ x. nat_lt x.place.chunk n in
      let more = more_overflow r o chunks stores w p in
      let behind : AllByRecursion (λ x. 0 + length r.chunks ≤ x.place.chunk) more =
      each-filter (λ x. 0 + length r.chunks ≤ x.place.chunk) _ _ (each-filter (λ x. 0 + length r.chunks ≤ x.place.chunk) _ (rows_from r.query (0 + length r.chunks) chunks) (rows-behind r.query (0 + length r.chunks) chunks)) in
      let none : count_by test more ≡ 0 = count-none test more (λ front back x is. le-ltb x.place.chunk n (omega (arith, le, each-at (λ (x : Row). 0 + length r.chunks ≤ x.place.chunk) more front back x behind is))) in
      ap (λ (l : List Row). count_by test l) (overflow-later r o chunks stores w p) ∙ count-append test (overflow r w p) more ∙ omega (arith, none)

  -- a turn has the events that it had
  pub turn-later : (w p i : ℕ) → i < length r.chunks → turn_events (longer_run r o chunks stores) w p i ≡ turn_events r w p i
  turn-later w p i lt =
      let s = longer_run r o chunks stores in
      let events : ℕ → ℕ → Bool → ℕ → List PartitionEvent = λ after before pick k.
      replicate (after / r.limits.buffer_size - before / r.limits.buffer_size) (event.Arrive w) ++ (if pick && ((w + k) % r.limits.partitions == p) then events_of w (action_at r i) else []) in
      ap (λ n. events n (sent_before s w p i) (is_pick s i) (picks_before s w i)) (sent-later w p (i + 1) (omega arith))
      ∙ ap (λ n. events (sent_before r w p (i + 1)) n (is_pick s i) (picks_before s w i)) (sent-later w p i (omega arith))
      ∙ ap (λ b. events (sent_before r w p (i + 1)) (sent_before r w p i) b (picks_before s w i)) (pick-later i lt)
      ∙ ap (λ k. events (sent_before r w p (i + 1)) (sent_before r w p i) (is_pick r i) k) (picks-later w i (omega arith))

  -- and so do all turns
  pub events-later : (w p n : ℕ) → n ≤ length r.chunks → events_before (longer_run r o chunks stores) w p n ≡ events_before r w p n
  events-later w p n le =
      flat_map-within (turn_events (longer_run r o chunks stores) w p) (turn_events r w p) (turns_before r w n)
      (λ front back i is. turn-later w p i (omega (arith, le, turns-before r w n front back i is)))

-- of all chunks all of the overflow is sent
pub sent-all : (r : Run) (w p : ℕ) → sent_before r w p (length r.chunks) ≡ length (overflow r w p)
sent-all r w p =
    let here : AllByRecursion (λ x. x.place.chunk < 0 + length r.chunks) (overflow r w p) =
    each-filter (λ x. x.place.chunk < 0 + length r.chunks) _ _ (each-filter (λ x. x.place.chunk < 0 + length r.chunks) _ (rows_from r.query 0 r.chunks) (rows-before r.query 0 r.chunks)) in
    count-all (λ x. nat_lt x.place.chunk (length r.chunks)) (overflow r w p)
    (λ front back x is. lt-ltb x.place.chunk (length r.chunks) (omega (arith, each-at (λ (x : Row). x.place.chunk < 0 + length r.chunks) (overflow r w p) front back x here is)))
