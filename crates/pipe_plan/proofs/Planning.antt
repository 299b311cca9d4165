-- A plan step by step: its turns, how many pieces arrive, and its next event.
use Rattle.std.proofs.Common.{◌≡◌, ◌≢◌, ℕ, zero, suc, ◌+◌, ◌-◌, ◌/◌, ◌<◌, ◌≤◌, ◌==◌, Bool, true, false, ◌&&◌, cond, List, [], ◌∷◌, ◌++◌, refl, ap, sym, ◌∙◌, subst, arith, ⊎_elim}
use Rattle.std.specs.Prelude.{if◌then◌else◌, nat_lt, count_by, replicate}
use Rattle.std.specs.List.{AllByRecursion, filter, flat_map}
use Rattle.std.proofs.lemmas.Bool.{cases_Bool, false≢true, ltb-true, lt-ltb, le-ltb}
use Rattle.std.proofs.lemmas.Bool.Decides.{nat_tests}
use Rattle.std.proofs.lemmas.List.{append-nil}
use Rattle.std.proofs.lemmas.Grind.{flat_map-append}
use Rattle.pipe_columns.specs.Row.{Row}
use Rattle.pipe_model.proofs.CountFacts.{count-append, count-cons}
use Rattle.pipe_plan.specs.declared.event.PartitionEvent.TheVariants as event
use Rattle.pipe_plan.specs.declared.event.SpillAction.{SpillAction}
use Rattle.pipe_plan.specs.declared.event.SpillAction.TheVariants as action
use Rattle.pipe_plan.specs.Overflow.{overflow, overflows}
use Rattle.pipe_plan.specs.Plan.{action_at, events_before, events_of, full_before, is_pick, picked_partition, picks_before, sent_before, turn_events, turns_before}
use Rattle.pipe_plan.specs.Replay.{arrivals, is_arrival}
use Rattle.pipe_plan.specs.Run.{all_rows, is_turn_of, of_worker, Run}
use Rattle.pipe_plan.proofs.ChunkRows.{each-at, each-filter}
use Rattle.pipe_plan.proofs.Cutting.{div-mono}
use Rattle.pipe_plan.proofs.Filtering.{count-none, count-within, filter-no, filter-yes}
use Rattle.pipe_plan.proofs.Turning.{turns-append}

-- ---- one position more

-- a turn is one more
pub turns-yes : (r : Run) (w n : ℕ) → is_turn_of r w n ≡ true → turns_before r w (n + 1) ≡ turns_before r w n ++ n ∷ []
turns-yes r w n is =
    turns-append r w n 1
    ∙ ap (λ (k : ℕ). turns_before r w n ++ filter (is_turn_of r w) (k ∷ [])) {x = 0 + n} {y = n} (omega arith)
    ∙ ap (λ (l : List ℕ). turns_before r w n ++ l) (filter-yes (is_turn_of r w) n [] is)

-- another position is none
pub turns-no : (r : Run) (w n : ℕ) → is_turn_of r w n ≡ false → turns_before r w (n + 1) ≡ turns_before r w n
turns-no r w n is =
    turns-append r w n 1
    ∙ ap (λ (k : ℕ). turns_before r w n ++ filter (is_turn_of r w) (k ∷ [])) {x = 0 + n} {y = n} (omega arith)
    ∙ ap (λ (l : List ℕ). turns_before r w n ++ l) (filter-no (is_turn_of r w) n [] is)
    ∙ append-nil (turns_before r w n)

-- a turn adds its events
pub events-yes : (r : Run) (w p n : ℕ) → is_turn_of r w n ≡ true → events_before r w p (n + 1) ≡ events_before r w p n ++ turn_events r w p n
events-yes r w p n is =
    ap (λ (l : List ℕ). flat_map (turn_events r w p) l) (turns-yes r w n is)
    ∙ flat_map-append (turn_events r w p) (turns_before r w n) (n ∷ [])
    ∙ ap (λ l. events_before r w p n ++ l) (append-nil (turn_events r w p n))

-- another position adds none
pub events-no : (r : Run) (w p n : ℕ) → is_turn_of r w n ≡ false → events_before r w p (n + 1) ≡ events_before r w p n
events-no r w p n is = ap (λ (l : List ℕ). flat_map (turn_events r w p) l) (turns-no r w n is)

-- a turn may be a pick
pub picks-yes : (r : Run) (w n : ℕ) → is_turn_of r w n ≡ true → picks_before r w (n + 1) ≡ picks_before r w n + (if is_pick r n then 1 else 0)
picks-yes r w n is =
    ap (λ (l : List ℕ). count_by (is_pick r) l) (turns-yes r w n is)
    ∙ count-append (is_pick r) (turns_before r w n) (n ∷ [])
    ∙ ap (λ k. picks_before r w n + k) (count-cons (is_pick r) n [] ∙ omega arith)

-- another position is none
pub picks-no : (r : Run) (w n : ℕ) → is_turn_of r w n ≡ false → picks_before r w (n + 1) ≡ picks_before r w n
picks-no r w n is = ap (λ (l : List ℕ). count_by (is_pick r) l) (turns-no r w n is)

-- ---- rows sent

-- what passes a filter passes its test
filter-passes : {A : Type 0} (test : A → Bool) (xs : List A) → AllByRecursion (λ x. test x ≡ true) (filter test xs)
filter-passes test [] = tt
filter-passes test (x ∷ xs) = ⊎_elim
    (λ yes. subst (AllByRecursion (λ x. test x ≡ true)) (sym (filter-yes test x xs yes)) (yes, filter-passes test xs))
    (λ no. subst (AllByRecursion (λ x. test x ≡ true)) (sym (filter-no test x xs no)) (filter-passes test xs))
    (cases_Bool (test x))

-- a worker's rows stand in its turns
overflow-mine : (r : Run) (w p : ℕ) → AllByRecursion (λ x. is_turn_of r w x.place.chunk ≡ true) (overflow r w p)
overflow-mine r w p = each-filter (λ (x : Row). is_turn_of r w x.place.chunk ≡ true) (overflows r w p) (of_worker r w) (filter-passes (λ (x : Row). is_turn_of r w x.place.chunk) (all_rows r))

-- a position that is no turn sends nothing
pub sent-no : (r : Run) (w p n : ℕ) → is_turn_of r w n ≡ false → sent_before r w p (n + 1) ≡ sent_before r w p n
sent-no r w p n not_mine =
    count-within (λ (x : Row). nat_lt x.place.chunk (n + 1)) (λ (x : Row). nat_lt x.place.chunk n) (overflow r w p)
    (λ front back x is.
    let mine = each-at (λ (x : Row). is_turn_of r w x.place.chunk ≡ true) (overflow r w p) front back x (overflow-mine r w p) is in
    let apart : x.place.chunk ≢ n = λ at. false≢true (sym not_mine ∙ (sym (ap (is_turn_of r w) at) ∙ mine)) in
    grind (arith, nat_tests))

-- a test that another one implies counts no more
count-le : {A : Type 0} (test other : A → Bool) (xs : List A) → ((x : A) → test x ≡ true → other x ≡ true) → count_by test xs ≤ count_by other xs
count-le test other [] implies = omega arith
count-le test other (x ∷ xs) implies =
    let rest = count-le test other xs implies in
    let one_if : Bool → ℕ = λ b. cond b 1 0 in
    ⊎_elim
    (λ yes. omega (arith, count-cons test x xs, count-cons other x xs, rest, ap one_if yes, ap one_if (implies x yes)))
    (λ fails. omega (arith, count-cons test x xs, count-cons other x xs, rest, ap one_if fails))
    (cases_Bool (test x))

-- no fewer rows are sent by the next position
pub sent-le : (r : Run) (w p n : ℕ) → sent_before r w p n ≤ sent_before r w p (n + 1)
sent-le r w p n = count-le (λ (x : Row). nat_lt x.place.chunk n) (λ (x : Row). nat_lt x.place.chunk (n + 1)) (overflow r w p) (λ x is. lt-ltb x.place.chunk (n + 1) (omega (arith, ltb-true x.place.chunk n is)))

-- so no fewer pieces are full
pub full-le : (r : Run) (w p n : ℕ) → 0 < r.limits.buffer_size → full_before r w p n ≤ full_before r w p (n + 1)
full-le r w p n some = div-mono (sent_before r w p n) (sent_before r w p (n + 1)) r.limits.buffer_size some (sent-le r w p n)

-- ---- arrivals

-- so many arrivals
pub arrivals-replicate : (w n : ℕ) → arrivals (replicate n (event.Arrive w)) ≡ n
arrivals-replicate w zero = refl
arrivals-replicate w (suc n) = count-cons is_arrival (event.Arrive w) (replicate n (event.Arrive w)) ∙ omega (arith, arrivals-replicate w n)

-- a pick is no arrival
pub arrivals-pick : (w : ℕ) (a : SpillAction) (b : Bool) → arrivals (if b then events_of w a else []) ≡ 0
arrivals-pick w a false = refl
arrivals-pick w action.EarlyMerge true = refl
arrivals-pick w action.Dump true = refl
arrivals-pick w action.None true = refl

-- as many pieces arrive in the turns before a position as their rows fill
pub arrivals-before : (r : Run) (w p n : ℕ) → 0 < r.limits.buffer_size → arrivals (events_before r w p n) ≡ full_before r w p n
arrivals-before r w p zero some =
    let none : sent_before r w p 0 ≡ 0 = count-none (λ (x : Row). nat_lt x.place.chunk 0) (overflow r w p) (λ front back x is. le-ltb x.place.chunk 0 (omega arith)) in
    omega arith ∙ sym (ap (λ k. k / r.limits.buffer_size) none)
arrivals-before r w p (suc n) some =
    let rest = arrivals-before r w p n some in
    let step : arrivals (events_before r w p (n + 1)) ≡ full_before r w p (n + 1) = ⊎_elim
    (λ yes.
    let pick = if is_pick r n && (picked_partition r w n == p) then events_of w (action_at r n) else [] in
    let made = replicate (full_before r w p (n + 1) - full_before r w p n) (event.Arrive w) in
    ap arrivals (events-yes r w p n yes)
    ∙ omega (arith, count-append is_arrival (events_before r w p n) (turn_events r w p n), count-append is_arrival made pick, arrivals-replicate w (full_before r w p (n + 1) - full_before r w p n), arrivals-pick w (action_at r n) (is_pick r n && (picked_partition r w n == p)), full-le r w p n some, rest))
    (λ no. ap arrivals (events-no r w p n no) ∙ rest ∙ sym (ap (λ k. k / r.limits.buffer_size) (sent-no r w p n no)))
    (cases_Bool (is_turn_of r w n)) in
    ap (λ k. arrivals (events_before r w p k)) {x = suc n} {y = n + 1} (omega arith) ∙ step ∙ ap (λ k. full_before r w p k) {x = n + 1} {y = suc n} (omega arith)
