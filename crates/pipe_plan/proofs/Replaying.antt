-- The replay of a journal: event by event, and how its rows count.
use Rattle.std.proofs.Common.{◌≡◌, ◌≢◌, ℕ, ◌+◌, ◌<◌, ◌==◌, Bool, true, false, cond, List, [], ◌∷◌, ◌++◌, length, get_or, take, refl, ap, sym, ◌∙◌, arith, append_assoc, ⊎_elim}
use Rattle.std.specs.Prelude.{if◌then◌else◌, nat_lt}
use Rattle.std.specs.List.{count_by, slice_index_or}
use Rattle.std.proofs.lemmas.Bool.{cases_Bool, cases_lt, eqb-false, eq-eqb, ne_eqb}
use Rattle.std.proofs.lemmas.List.{append-nil, get_or_past, take_all, take_more}
use Rattle.std.proofs.lemmas.List.Elements.{All-head, All-tail, filter-append}
use Rattle.std.proofs.lemmas.Grind.{flat_map-append}
use Rattle.pipe_columns.specs.Row.{Row}
use Rattle.pipe_model.proofs.CountFacts.{count-append, count-cons}
use Rattle.pipe_plan.specs.Journals.{AreOfWorkers}
use Rattle.pipe_plan.specs.Whole.{rows_of}
use Rattle.pipe_plan.specs.declared.event.PartitionEvent.{PartitionEvent}
use Rattle.pipe_plan.specs.declared.event.PartitionEvent.TheVariants as event
use Rattle.pipe_plan.specs.Payloads.{payloads}
use Rattle.pipe_plan.specs.Replay.{after_arrival, after_dump, after_event, after_merge, arrivals, events_by, is_arrival, joined_lists, next_piece, nothing_yet, replay, replay_from, Replayed, worker_of}
use Rattle.pipe_plan.specs.Run.{Run}
use Rattle.pipe_plan.proofs.Adding.{sum_to, sum_to-one, sum_to-same, sum_to-zero}
use Rattle.pipe_plan.proofs.Filtering.{filter-no, filter-yes}

-- ---- one event more

-- a replay that goes on, with one event more
replay_from-push : (r : Run) (p : ℕ) (before : List PartitionEvent) (s : Replayed) (events : List PartitionEvent) (e : PartitionEvent)
    → replay_from r p before s (events ++ e ∷ []) ≡ after_event r p (before ++ events) (replay_from r p before s events) e
replay_from-push r p before s [] e = ap (λ (l : List PartitionEvent). after_event r p l s e) (sym (append-nil before))
replay_from-push r p before s (d ∷ events) e =
    replay_from-push r p (before ++ d ∷ []) (after_event r p before s d) events e
    ∙ ap (λ (l : List PartitionEvent). after_event r p l (replay_from r p (before ++ d ∷ []) (after_event r p before s d) events) e) (append_assoc before (d ∷ []) events)

-- a replay with one event more
pub replay-push : (r : Run) (p : ℕ) (journal : List PartitionEvent) (e : PartitionEvent) → replay r p (journal ++ e ∷ []) ≡ after_event r p journal (replay r p journal) e
replay-push r p journal e = replay_from-push r p [] nothing_yet journal e

-- ---- the same replay in another run

-- of runs with one limit in which each arrival brings the same piece
pub replay_from-same : (r s : Run) (p : ℕ) (before : List PartitionEvent) (state : Replayed) (events : List PartitionEvent) → s.limits.payload_limit ≡ r.limits.payload_limit
    → ((front back : List PartitionEvent) (w : ℕ) → events ≡ front ++ event.Arrive w ∷ back → next_piece s w p (events_by w (before ++ front)) ≡ next_piece r w p (events_by w (before ++ front)))
    → replay_from s p before state events ≡ replay_from r p before state events
replay_from-same r s p before state [] limit same = refl
replay_from-same r s p before state (e ∷ events) limit same =
    ap (λ (x : Replayed). replay_from s p (before ++ e ∷ []) x events) (one e (λ w is. sym (ap (λ (l : List PartitionEvent). next_piece s w p (events_by w l)) (append-nil before)) ∙ same [] events w (ap (λ d. d ∷ events) is) ∙ ap (λ (l : List PartitionEvent). next_piece r w p (events_by w l)) (append-nil before)))
    ∙ replay_from-same r s p (before ++ e ∷ []) (after_event r p before state e) events limit
    (λ front back w is.
    ap (λ (l : List PartitionEvent). next_piece s w p (events_by w l)) (append_assoc before (e ∷ []) front)
    ∙ same (e ∷ front) back w (ap (λ (l : List PartitionEvent). e ∷ l) is)
    ∙ ap (λ (l : List PartitionEvent). next_piece r w p (events_by w l)) (sym (append_assoc before (e ∷ []) front)))
  where
    one : (e : PartitionEvent) → ((w : ℕ) → e ≡ event.Arrive w → next_piece s w p (events_by w before) ≡ next_piece r w p (events_by w before)) → after_event s p before state e ≡ after_event r p before state e
    one (event.Arrive w) pieces = ap (λ (piece : List Row). after_arrival piece state) (pieces w refl)
    one (event.Merge w) pieces = refl
    one (event.Dump w) pieces = ap (λ n. after_dump n state) limit

-- ---- arrivals of one event more

-- the events of a worker with one event more
pub events_by-push : (w : ℕ) (events : List PartitionEvent) (e : PartitionEvent) → events_by w (events ++ e ∷ []) ≡ events_by w events ++ events_by w (e ∷ [])
events_by-push w events e = filter-append (λ e. worker_of e == w) events (e ∷ [])

-- a worker's own arrival is one more
pub arrivals-own : (w : ℕ) (events : List PartitionEvent) → arrivals (events_by w (events ++ event.Arrive w ∷ [])) ≡ arrivals (events_by w events) + 1
arrivals-own w events =
    ap arrivals (events_by-push w events (event.Arrive w) ∙ ap (λ (l : List PartitionEvent). events_by w events ++ l) (filter-yes (λ e. worker_of e == w) (event.Arrive w) [] (eq-eqb w w refl)))
    ∙ count-append is_arrival (events_by w events) (event.Arrive w ∷ [])

-- another worker's event is none
pub arrivals-other : (w : ℕ) (events : List PartitionEvent) (e : PartitionEvent) → worker_of e ≢ w → arrivals (events_by w (events ++ e ∷ [])) ≡ arrivals (events_by w events)
arrivals-other w events e apart =
    ap arrivals (events_by-push w events e ∙ ap (λ (l : List PartitionEvent). events_by w events ++ l) (filter-no (λ e. worker_of e == w) e [] (ne_eqb (worker_of e) w apart)) ∙ append-nil (events_by w events))

-- an event that is no arrival is none
pub arrivals-still : (w : ℕ) (events : List PartitionEvent) (e : PartitionEvent) → is_arrival e ≡ false → arrivals (events_by w (events ++ e ∷ [])) ≡ arrivals (events_by w events)
arrivals-still w events e still = ⊎_elim
    (λ mine.
    let one_if : Bool → ℕ = λ b. cond b 1 0 in
    ap arrivals (events_by-push w events e ∙ ap (λ (l : List PartitionEvent). events_by w events ++ l) (filter-yes (λ e. worker_of e == w) e [] mine))
    ∙ omega (arith, count-append is_arrival (events_by w events) (e ∷ []), count-cons is_arrival e [], ap one_if still))
    (λ other. arrivals-other w events e (eqb-false (worker_of e) w other))
    (cases_Bool (worker_of e == w))

-- ---- rows

-- two lists of lists are joined one behind the other
pub joined-append : {A : Type 0} (ps qs : List (List A)) → joined_lists (ps ++ qs) ≡ joined_lists ps ++ joined_lists qs
joined-append {A = A} ps qs = flat_map-append (λ (piece : List A). piece) ps qs

-- a piece more counts as its rows
pub joined-push : {A : Type 0} (test : A → Bool) (ps : List (List A)) (piece : List A) → count_by test (joined_lists (ps ++ piece ∷ [])) ≡ count_by test (joined_lists ps) + count_by test piece
joined-push {A = A} test ps piece = ap (λ (l : List A). count_by test l) (joined-append ps (piece ∷ []) ∙ ap (λ l. joined_lists ps ++ l) (append-nil piece)) ∙ count-append test (joined_lists ps) piece

-- one piece more
count-piece : {A : Type 0} (test : A → Bool) (ps : List (List A)) (k : ℕ) → count_by test (joined_lists (take (k + 1) ps)) ≡ count_by test (joined_lists (take k ps)) + count_by test (slice_index_or ps k [])
count-piece {A = A} test ps k = ⊎_elim
    (λ lt. ap (λ (l : List (List A)). count_by test (joined_lists l)) (take_more ps k [] lt) ∙ joined-push test (take k ps) (get_or ps k []))
    (λ ge.
    let none : count_by test (get_or ps k []) ≡ 0 = ap (λ (l : List A). count_by test l) (get_or_past ps k [] ge) in
    let all = ap (λ (l : List (List A)). count_by test (joined_lists l)) (take_all (k + 1) ps (omega (arith, ge)) ∙ sym (take_all k ps ge)) in
    omega (arith, none, all))
    (cases_lt k (length ps))

-- the rows of the pieces of a worker that arrived
abbrev pub taken : (Row → Bool) → Run → ℕ → List PartitionEvent → ℕ → ℕ
taken test r p events w = count_by test (joined_lists (take (arrivals (events_by w events)) (payloads r w p)))

-- the rows of a partition count as those of its three parts
count-rows : (test : Row → Bool) (s : Replayed) → count_by test (rows_of s) ≡ count_by test s.merged + (count_by test (joined_lists s.waiting) + count_by test (joined_lists s.frames))
count-rows test s = count-append test s.merged (joined_lists s.waiting ++ joined_lists s.frames) ∙ ap (λ k. count_by test s.merged + k) (count-append test (joined_lists s.waiting) (joined_lists s.frames))

-- an event that lets nothing arrive takes nothing
taken-still : (test : Row → Bool) (r : Run) (p : ℕ) (events : List PartitionEvent) (e : PartitionEvent) → is_arrival e ≡ false
    → sum_to r.limits.workers (taken test r p (events ++ e ∷ [])) ≡ sum_to r.limits.workers (taken test r p events)
taken-still test r p events e still = sum_to-same r.limits.workers _ _ (λ w lt. ap (λ k. count_by test (joined_lists (take k (payloads r w p)))) (arrivals-still w events e still))

-- an event more leaves the rows those of the pieces that arrived
event-rows : (test : Row → Bool) (r : Run) (p : ℕ) (before : List PartitionEvent) (s : Replayed) (e : PartitionEvent) → worker_of e < r.limits.workers
    → count_by test (rows_of s) ≡ sum_to r.limits.workers (taken test r p before)
    → count_by test (rows_of (after_event r p before s e)) ≡ sum_to r.limits.workers (taken test r p (before ++ e ∷ []))
event-rows test r p before s (event.Arrive v) lt is =
    let piece = next_piece r v p (events_by v before) in
    let more = sum_to-one r.limits.workers (taken test r p (before ++ event.Arrive v ∷ [])) (taken test r p before) v (count_by test piece) lt
    (ap (λ k. count_by test (joined_lists (take k (payloads r v p)))) (arrivals-own v before) ∙ count-piece test (payloads r v p) (arrivals (events_by v before)))
    (λ w apart. ap (λ k. count_by test (joined_lists (take k (payloads r w p)))) (arrivals-other w before (event.Arrive v) (λ is. apart (sym is)))) in
    omega (arith, more, is, count-rows test s, count-rows test (after_arrival piece s), joined-push test s.waiting piece)
event-rows test r p before s (event.Merge v) lt is =
    let still = taken-still test r p before (event.Merge v) refl in
    omega (arith, still, is, count-rows test s, count-rows test (after_merge s), count-append test s.merged (joined_lists s.waiting))
event-rows test r p before s (event.Dump v) lt is =
    let still = taken-still test r p before (event.Dump v) refl in
    let put : Replayed = record s { frames = s.frames ++ joined_lists s.waiting ∷ []; waiting = [] } in
    elim (nat_lt r.limits.payload_limit (length s.waiting)) as (λ b. count_by test (rows_of (if b then put else s)) ≡ sum_to r.limits.workers (taken test r p (before ++ event.Dump v ∷ []))) [
      | true ↦ omega (arith, still, is, count-rows test s, count-rows test put, joined-push test s.frames (joined_lists s.waiting))
      | false ↦ omega (arith, still, is)
    ]

-- and so do all events
replay_from-rows : (test : Row → Bool) (r : Run) (p : ℕ) (before : List PartitionEvent) (s : Replayed) (events : List PartitionEvent) → AreOfWorkers r events
    → count_by test (rows_of s) ≡ sum_to r.limits.workers (taken test r p before)
    → count_by test (rows_of (replay_from r p before s events)) ≡ sum_to r.limits.workers (taken test r p (before ++ events))
replay_from-rows test r p before s [] ours is = is ∙ ap (λ (l : List PartitionEvent). sum_to r.limits.workers (taken test r p l)) (sym (append-nil before))
replay_from-rows test r p before s (e ∷ events) ours is =
    replay_from-rows test r p (before ++ e ∷ []) (after_event r p before s e) events (All-tail (λ e. worker_of e < r.limits.workers) e events ours)
    (event-rows test r p before s e (All-head (λ e. worker_of e < r.limits.workers) e events ours) is)
    ∙ ap (λ (l : List PartitionEvent). sum_to r.limits.workers (taken test r p l)) (append_assoc before (e ∷ []) events)

-- the rows of a replay are those of the pieces that arrived
pub replay-rows : (test : Row → Bool) (r : Run) (p : ℕ) (journal : List PartitionEvent) → AreOfWorkers r journal
    → count_by test (rows_of (replay r p journal)) ≡ sum_to r.limits.workers (taken test r p journal)
replay-rows test r p journal ours =
    replay_from-rows test r p [] nothing_yet journal ours (sym (sum_to-same r.limits.workers _ (λ w. 0) (λ w lt. refl) ∙ sum_to-zero r.limits.workers))
