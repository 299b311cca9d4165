-- What a worker does at the end of a turn, and of its chunks.
use Rattle.std.proofs.Common.{◌≡◌, ℕ, ◌+◌, ◌/◌, ◌%◌, ◌-◌, ◌/◌, ◌<◌, ◌≤◌, ◌==◌, Bool, true, false, ◌&&◌, ◌||◌, List, [], ◌∷◌, ◌++◌, length, take, Some, slice_get, refl, ap, sym, ◌∙◌, arith, length-append}
use Rattle.std.specs.Prelude.{if◌then◌else◌, nat_lt, replicate}
use Rattle.std.specs.List.{slice_index_or}
use Rattle.std.proofs.lemmas.Bool.{ne_eqb, eq-eqb}
use Rattle.std.proofs.lemmas.List.{append-nil, length-replicate}
use Rattle.std.proofs.Math.Seq.{get_or-append_seam, take-append_seam}
use Rattle.pipe_columns.specs.Pieces.{pieces}
use Rattle.pipe_columns.specs.Row.{Row}
use Rattle.pipe_plan.specs.declared.event.PartitionEvent.{PartitionEvent}
use Rattle.pipe_plan.specs.declared.event.PartitionEvent.TheVariants as event
use Rattle.pipe_plan.specs.declared.event.SpillAction.{SpillAction}
use Rattle.pipe_plan.specs.declared.event.SpillAction.TheVariants as action
use Rattle.pipe_plan.specs.Overflow.{overflow}
use Rattle.pipe_plan.specs.Payloads.{full_pieces, payloads, rest_of}
use Rattle.pipe_plan.specs.Plan.{action_at, asks, events_before, events_of, full_before, height_at, is_pick, last_events, picked_partition, plan, turn_events}
use Rattle.pipe_plan.specs.Progress.{events_made, rows_before}
use Rattle.pipe_plan.specs.Replay.{arrivals, next_piece}
use Rattle.pipe_plan.specs.Run.{is_generic, is_turn_of, Run}
use Rattle.pipe_plan.proofs.Cutting.{last_piece, length-full, length-rest, pieces-full_rest}
use Rattle.pipe_plan.proofs.NextEvent.{fills, next-last, next-pick, picked, plan-generic}
use Rattle.pipe_plan.proofs.Planning.{arrivals-before, events-yes}
use Rattle.pipe_plan.proofs.Reaching.{overflow-until, sent-until}
use Rattle.pipe_plan.proofs.Turning.{sent-all}

-- ---- the end of a turn

-- with the rows of all turns before a position taken
made-all : (r : Run) (w p i n : ℕ) → n ≤ length r.chunks → events_made r w p i (rows_before r w n) ≡ length (events_before r w p i) + (full_before r w p n - full_before r w p i)
made-all r w p i n le =
    ap (λ k. length (events_before r w p i) + (k / r.limits.buffer_size - full_before r w p i))
    (ap (λ (l : List Row). length l) (sym (overflow-until r n w p)) ∙ sym (sent-until r n w p le))

-- where a pick takes the partition, its event is the next
pub pick-next : (r : Run) (w p i : ℕ) (e : PartitionEvent) → is_generic r.limits.sink ≡ true → i < length r.chunks → is_turn_of r w i ≡ true
    → is_pick r i ≡ true → picked_partition r w i ≡ p → events_of w (action_at r i) ≡ e ∷ []
    → slice_get (plan r w p) (events_made r w p i (rows_before r w (i + 1))) ≡ Some e
pick-next r w p i e generic lt turn pick here one =
    ap (λ k. slice_get (plan r w p) k) (made-all r w p i (i + 1) (omega arith))
    ∙ next-pick r w p i e generic lt turn
    (ap (λ b. if b && (picked_partition r w i == p) then events_of w (action_at r i) else []) pick ∙ ap (λ b. if b then events_of w (action_at r i) else []) (eq-eqb (picked_partition r w i) p here) ∙ one)

-- a pick has one event where it takes the partition
length-picked : (r : Run) (w p i : ℕ) → length (picked r w p i) ≡ (if is_pick r i && (picked_partition r w i == p) then 1 else 0)
length-picked r w p i = by (nat_lt 0 (height_at r i)) (action_at r i) (picked_partition r w i == p)
  where
    by : (h : Bool) (a : SpillAction) (here : Bool) → length (if (h && asks a) && here then events_of w a else []) ≡ (if (h && asks a) && here then 1 else 0)
    by false a here = refl
    by true action.EarlyMerge true = refl
    by true action.EarlyMerge false = refl
    by true action.Dump true = refl
    by true action.Dump false = refl
    by true action.None here = refl

-- as the turn begins, the events are those before it
pub made-begun : (r : Run) (w p i : ℕ) → i ≤ length r.chunks → events_made r w p i (rows_before r w i) ≡ length (events_before r w p i)
made-begun r w p i le = made-all r w p i i le ∙ omega arith

-- after the turn the events are those before it, its arrivals and its pick
pub made-turn : (r : Run) (w p i : ℕ) → i < length r.chunks → is_turn_of r w i ≡ true
    → length (events_before r w p (i + 1)) ≡ events_made r w p i (rows_before r w (i + 1)) + (if is_pick r i && (picked_partition r w i == p) then 1 else 0)
made-turn r w p i lt turn =
    let made = replicate (fills r w p i) (event.Arrive w) in
    ap (λ (l : List PartitionEvent). length l) (events-yes r w p i turn)
    ∙ omega (arith, length-append (events_before r w p i) (turn_events r w p i), length-append made (picked r w p i), length-replicate (fills r w p i) (event.Arrive w), length-picked r w p i, made-all r w p i (i + 1) (omega arith))

-- ---- the end of the chunks

-- whether the end has an event
pub last-none : (r : Run) (w p : ℕ) → 0 < r.limits.buffer_size → rest_of r.limits.buffer_size (overflow r w p) ≡ [] → last_events r w p ≡ []
last-none r w p some none =
    let whole : (length (overflow r w p) % r.limits.buffer_size == 0) ≡ true = eq-eqb (length (overflow r w p) % r.limits.buffer_size) 0 (sym (length-rest r.limits.buffer_size (overflow r w p) some) ∙ ap (λ (l : List Row). length l) none) in
    ap (λ b. if r.is_open || b then [] else event.Arrive w ∷ []) whole ∙ either r.is_open
  where
    either : (o : Bool) → (if o || true then [] else event.Arrive w ∷ []) ≡ []
    either true = refl
    either false = refl

-- an open run has none
pub last-open : (r : Run) (w p : ℕ) → r.is_open ≡ true → last_events r w p ≡ []
last-open r w p is = ap (λ o. if o || (length (overflow r w p) % r.limits.buffer_size == 0) then [] else event.Arrive w ∷ []) is

-- a closed one has one where a rest is left
pub last-one : (r : Run) (w p : ℕ) → 0 < r.limits.buffer_size → r.is_open ≡ false → 0 < length (rest_of r.limits.buffer_size (overflow r w p)) → last_events r w p ≡ event.Arrive w ∷ []
last-one r w p some shut any =
    let short : (length (overflow r w p) % r.limits.buffer_size == 0) ≡ false = ne_eqb (length (overflow r w p) % r.limits.buffer_size) 0 (λ is. absurd (omega (arith, is, any, length-rest r.limits.buffer_size (overflow r w p) some))) in
    ap (λ o. if o || (length (overflow r w p) % r.limits.buffer_size == 0) then [] else event.Arrive w ∷ []) shut
    ∙ ap (λ b. if b then [] else event.Arrive w ∷ []) short

-- the arrival of the rest is the next event
pub rest-next : (r : Run) (w p : ℕ) → 0 < r.limits.buffer_size → is_generic r.limits.sink ≡ true → r.is_open ≡ false → 0 < length (rest_of r.limits.buffer_size (overflow r w p))
    → slice_get (plan r w p) (length (events_before r w p (length r.chunks))) ≡ Some (event.Arrive w)
rest-next r w p some generic shut any = next-last r w p (event.Arrive w) generic (last-one r w p some shut any)

-- all full pieces arrived by then
full-arrived : (r : Run) (w p : ℕ) → 0 < r.limits.buffer_size → is_generic r.limits.sink ≡ true
    → arrivals (take (length (events_before r w p (length r.chunks))) (plan r w p)) ≡ length (full_pieces r.limits.buffer_size (overflow r w p))
full-arrived r w p some generic =
    ap (λ (l : List PartitionEvent). arrivals (take (length (events_before r w p (length r.chunks))) l)) (plan-generic r w p generic)
    ∙ ap (λ (l : List PartitionEvent). arrivals l) (take-append_seam (events_before r w p (length r.chunks)) (last_events r w p))
    ∙ arrivals-before r w p (length r.chunks) some
    ∙ ap (λ k. k / r.limits.buffer_size) (sent-all r w p)
    ∙ sym (length-full r.limits.buffer_size (overflow r w p) some)

-- so it brings the rest
pub rest-arrives : (r : Run) (w p : ℕ) → 0 < r.limits.buffer_size → is_generic r.limits.sink ≡ true → r.is_open ≡ false → 0 < length (rest_of r.limits.buffer_size (overflow r w p))
    → next_piece r w p (take (length (events_before r w p (length r.chunks))) (plan r w p)) ≡ rest_of r.limits.buffer_size (overflow r w p)
rest-arrives r w p some generic shut any =
    let b = r.limits.buffer_size in
    let rows = overflow r w p in
    let made = take (length (events_before r w p (length r.chunks))) (plan r w p) in
    let last : (l : List Row) → 0 < length l → last_piece l ≡ l ∷ [] = one in
    let all : payloads r w p ≡ full_pieces b rows ++ rest_of b rows ∷ [] =
    ap (λ o. if o then full_pieces b rows else pieces b rows) shut ∙ pieces-full_rest b rows some ∙ ap (λ (ps : List (List Row)). full_pieces b rows ++ ps) (last (rest_of b rows) any) in
    ap (λ (ps : List (List Row)). slice_index_or ps (arrivals made) []) all
    ∙ ap (λ k. slice_index_or (full_pieces b rows ++ rest_of b rows ∷ []) k []) (full-arrived r w p some generic)
    ∙ get_or-append_seam (full_pieces b rows) (rest_of b rows) [] []
  where
    one : (l : List Row) → 0 < length l → last_piece l ≡ l ∷ []
    one [] lt = absurd (omega arith)
    one (x ∷ l) lt = refl

-- the plan where a rest is left, and where none is
pub plan-last : (r : Run) (w p : ℕ) → 0 < r.limits.buffer_size → is_generic r.limits.sink ≡ true → r.is_open ≡ false → 0 < length (rest_of r.limits.buffer_size (overflow r w p))
    → plan r w p ≡ events_before r w p (length r.chunks) ++ event.Arrive w ∷ []
plan-last r w p some generic shut any =
    plan-generic r w p generic ∙ ap (λ (l : List PartitionEvent). events_before r w p (length r.chunks) ++ l) (last-one r w p some shut any)

-- without a rest the plan ends with the turns
pub plan-none : (r : Run) (w p : ℕ) → 0 < r.limits.buffer_size → is_generic r.limits.sink ≡ true → rest_of r.limits.buffer_size (overflow r w p) ≡ []
    → plan r w p ≡ events_before r w p (length r.chunks)
plan-none r w p some generic none =
    plan-generic r w p generic ∙ ap (λ (l : List PartitionEvent). events_before r w p (length r.chunks) ++ l) (last-none r w p some none) ∙ append-nil (events_before r w p (length r.chunks))
