-- The next event of a plan, and which piece arrives with it.
use Rattle.std.proofs.Common.{◌≡◌, ℕ, zero, suc, ◌+◌, ◌-◌, ◌<◌, ◌≤◌, ◌==◌, true, false, ◌&&◌, List, [], ◌∷◌, ◌++◌, length, take, Some, slice_get, refl, ap, ◌∙◌, arith, append_assoc}
use Rattle.std.specs.Prelude.{if◌then◌else◌, replicate}
use Rattle.std.specs.List.{filter, flat_map, range_with_len}
use Rattle.std.proofs.lemmas.List.{length-replicate, take-append-le, take-replicate}
use Rattle.std.proofs.lemmas.Grind.{flat_map-append}
use Rattle.std.proofs.Math.Seq.{take-append-add}
use Rattle.pipe_model.proofs.CountFacts.{count-append}
use Rattle.pipe_plan.specs.Rounds.{IsFront}
use Rattle.pipe_plan.specs.declared.event.PartitionEvent.{PartitionEvent}
use Rattle.pipe_plan.specs.declared.event.PartitionEvent.TheVariants as event
use Rattle.pipe_plan.specs.Plan.{action_at, events_before, events_of, full_before, is_pick, last_events, picked_partition, plan, turn_events}
use Rattle.pipe_plan.specs.Replay.{arrivals, is_arrival}
use Rattle.pipe_plan.specs.Run.{is_generic, is_turn_of, Run}
use Rattle.pipe_plan.proofs.Planning.{arrivals-before, arrivals-replicate, events-yes}
use Rattle.pipe_plan.proofs.Turning.{turns-append}

-- ---- lists

-- the element behind a front
pub get-behind : {A : Type 0} (front xs : List A) (k : ℕ) → slice_get (front ++ xs) (length front + k) ≡ slice_get xs k
get-behind [] xs k = ap (λ i. slice_get xs i) {x = 0 + k} {y = k} (omega arith)
get-behind (y ∷ front) xs k = ap (λ i. slice_get (y ∷ (front ++ xs)) i) {x = length (y ∷ front) + k} {y = suc (length front + k)} (omega arith) ∙ get-behind front xs k

-- the element in a run of copies
pub get-replicate : {A : Type 0} (n k : ℕ) (x : A) (xs : List A) → k < n → slice_get (replicate n x ++ xs) k ≡ Some x
get-replicate zero k x xs lt = absurd (omega arith)
get-replicate (suc n) zero x xs lt = refl
get-replicate (suc n) (suc k) x xs lt = get-replicate n k x xs (omega arith)

-- the front of a front
pub front-trans : {A : Type 0} (xs ys zs : List A) → IsFront xs ys → IsFront ys zs → IsFront xs zs
front-trans xs ys zs f g = record { rest = f.rest ++ g.rest; is = g.is ∙ ap (λ l. l ++ g.rest) f.is ∙ append_assoc xs f.rest g.rest }

-- ---- the parts of a plan

-- the plan in a generic sink
pub plan-generic : (r : Run) (w p : ℕ) → is_generic r.limits.sink ≡ true → plan r w p ≡ events_before r w p (length r.chunks) ++ last_events r w p
plan-generic r w p is = ap (λ b. if b then events_before r w p (length r.chunks) ++ last_events r w p else []) is

-- and in a typed one
pub plan-typed : (r : Run) (w p : ℕ) → is_generic r.limits.sink ≡ false → plan r w p ≡ []
plan-typed r w p is = ap (λ b. if b then events_before r w p (length r.chunks) ++ last_events r w p else []) is

-- the events before a position are a front of those before a later one
pub events-front : (r : Run) (w p n m : ℕ) → n ≤ m → IsFront (events_before r w p n) (events_before r w p m)
events-front r w p n m le =
    let between = filter (is_turn_of r w) (range_with_len (0 + n) (m - n)) in
    record {
      rest = flat_map (turn_events r w p) between;
      is =
          ap (λ k. events_before r w p k) {x = m} {y = n + (m - n)} (omega arith)
          ∙ ap (λ (l : List ℕ). flat_map (turn_events r w p) l) (turns-append r w n (m - n))
          ∙ flat_map-append (turn_events r w p) _ between;
    }

-- and of the plan
pub plan-front : (r : Run) (w p n : ℕ) → is_generic r.limits.sink ≡ true → n ≤ length r.chunks → IsFront (events_before r w p n) (plan r w p)
plan-front r w p n generic le =
    front-trans (events_before r w p n) (events_before r w p (length r.chunks)) (plan r w p) (events-front r w p n (length r.chunks) le)
    (record { rest = last_events r w p; is = plan-generic r w p generic })

-- how many pieces a turn fills in a partition, and its pick's event there
abbrev pub fills : Run → ℕ → ℕ → ℕ → ℕ
fills r w p i = full_before r w p (i + 1) - full_before r w p i

-- its pick's event there, if any
abbrev pub picked : Run → ℕ → ℕ → ℕ → List PartitionEvent
picked r w p i = if is_pick r i && (picked_partition r w i == p) then events_of w (action_at r i) else []

-- the plan at a turn
record AtTurn (r : Run) (w p i : ℕ) : Type 0 where
  rest : List PartitionEvent
  is : plan r w p ≡ events_before r w p i ++ (replicate (fills r w p i) (event.Arrive w) ++ (picked r w p i ++ rest))

-- each turn stands so in the plan
at-turn : (r : Run) (w p i : ℕ) → is_generic r.limits.sink ≡ true → i < length r.chunks → is_turn_of r w i ≡ true → AtTurn r w p i
at-turn r w p i generic lt turn =
    let front = plan-front r w p (i + 1) generic (omega arith) in
    let made = replicate (fills r w p i) (event.Arrive w) in
    record {
      rest = front.rest;
      is =
          front.is
          ∙ ap (λ (l : List PartitionEvent). l ++ front.rest) (events-yes r w p i turn)
          ∙ append_assoc (events_before r w p i) (made ++ picked r w p i) front.rest
          ∙ ap (λ (l : List PartitionEvent). events_before r w p i ++ l) (append_assoc made (picked r w p i) front.rest);
    }

-- ---- the next event

-- while the turn fills pieces
pub next-arrival : (r : Run) (w p i k : ℕ) → is_generic r.limits.sink ≡ true → i < length r.chunks → is_turn_of r w i ≡ true → k < fills r w p i
    → slice_get (plan r w p) (length (events_before r w p i) + k) ≡ Some (event.Arrive w)
next-arrival r w p i k generic lt turn few =
    let at = at-turn r w p i generic lt turn in
    ap (λ (l : List PartitionEvent). slice_get l (length (events_before r w p i) + k)) at.is
    ∙ get-behind (events_before r w p i) (replicate (fills r w p i) (event.Arrive w) ++ (picked r w p i ++ at.rest)) k
    ∙ get-replicate (fills r w p i) k (event.Arrive w) (picked r w p i ++ at.rest) few

-- behind them its pick
pub next-pick : (r : Run) (w p i : ℕ) (e : PartitionEvent) → is_generic r.limits.sink ≡ true → i < length r.chunks → is_turn_of r w i ≡ true → picked r w p i ≡ e ∷ []
    → slice_get (plan r w p) (length (events_before r w p i) + fills r w p i) ≡ Some e
next-pick r w p i e generic lt turn is =
    let at = at-turn r w p i generic lt turn in
    let made = replicate (fills r w p i) (event.Arrive w) in
    ap (λ (l : List PartitionEvent). slice_get l (length (events_before r w p i) + fills r w p i)) at.is
    ∙ get-behind (events_before r w p i) (made ++ (picked r w p i ++ at.rest)) (fills r w p i)
    ∙ ap (λ k. slice_get (made ++ (picked r w p i ++ at.rest)) k) {x = fills r w p i} {y = length made + 0} (omega (arith, length-replicate (fills r w p i) (event.Arrive w)))
    ∙ get-behind made (picked r w p i ++ at.rest) 0
    ∙ ap (λ (l : List PartitionEvent). slice_get (l ++ at.rest) 0) is

-- at the end the arrival of the rest
pub next-last : (r : Run) (w p : ℕ) (e : PartitionEvent) → is_generic r.limits.sink ≡ true → last_events r w p ≡ e ∷ []
    → slice_get (plan r w p) (length (events_before r w p (length r.chunks))) ≡ Some e
next-last r w p e generic is =
    ap (λ (l : List PartitionEvent). slice_get l (length (events_before r w p (length r.chunks)))) (plan-generic r w p generic)
    ∙ ap (λ k. slice_get (events_before r w p (length r.chunks) ++ last_events r w p) k) {x = length (events_before r w p (length r.chunks))} {y = length (events_before r w p (length r.chunks)) + 0} (omega arith)
    ∙ get-behind (events_before r w p (length r.chunks)) (last_events r w p) 0
    ∙ ap (λ (l : List PartitionEvent). slice_get l 0) is

-- ---- the pieces that arrived by then

-- those of the turns before, and those that the turn made
pub arrivals-made : (r : Run) (w p i k : ℕ) → 0 < r.limits.buffer_size → is_generic r.limits.sink ≡ true → i < length r.chunks → is_turn_of r w i ≡ true → k ≤ fills r w p i
    → arrivals (take (length (events_before r w p i) + k) (plan r w p)) ≡ full_before r w p i + k
arrivals-made r w p i k some generic lt turn few =
    let at = at-turn r w p i generic lt turn in
    let made = replicate (fills r w p i) (event.Arrive w) in
    let short : k ≤ length made = omega (arith, few, length-replicate (fills r w p i) (event.Arrive w)) in
    let taken : take (length (events_before r w p i) + k) (plan r w p) ≡ events_before r w p i ++ replicate k (event.Arrive w) =
    ap (λ (l : List PartitionEvent). take (length (events_before r w p i) + k) l) at.is
    ∙ take-append-add (events_before r w p i) (made ++ (picked r w p i ++ at.rest)) k
    ∙ ap (λ (l : List PartitionEvent). events_before r w p i ++ l) (take-append-le k made (picked r w p i ++ at.rest) short ∙ take-replicate k (fills r w p i) (event.Arrive w) few) in
    ap (λ (l : List PartitionEvent). arrivals l) taken
    ∙ omega (arith, count-append is_arrival (events_before r w p i) (replicate k (event.Arrive w)), arrivals-before r w p i some, arrivals-replicate w k)
