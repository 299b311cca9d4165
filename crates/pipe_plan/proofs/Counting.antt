-- Journals within the plans that hold as many events as all plans together hold the plans whole.
use Rattle.std.proofs.Common.{◌≡◌, ℕ, ◌+◌, ◌<◌, ◌≤◌, true, List, [], ◌∷◌, ◌++◌, length, refl, ap, sym, ◌∙◌, arith, length-append, ◌==◌, Some, slice_get, subst, append_assoc, ⊎_elim}
use Rattle.std.specs.Prelude.{unwrap_or}
use Rattle.std.specs.List.{count_by, range_with_len, sum_by}
use Rattle.std.proofs.lemmas.List.{append-nil}
use Rattle.std.proofs.lemmas.List.Elements.{All-from_recursion, All-nil, recursion_from_All}
use Rattle.std.proofs.lemmas.Bool.{cases_eq, eq-eqb, ne_eqb}
use Rattle.std.proofs.lemmas.Option.{none-some}
use Rattle.pipe_plan.specs.Journals.{AreOfWorkers, AreWhole, AreWithin, IsWhole, IsWithin, journal_count, journal_of, planned_count}
use Rattle.pipe_plan.specs.Rounds.{IsFront}
use Rattle.pipe_plan.specs.declared.event.PartitionEvent.{PartitionEvent}
use Rattle.pipe_plan.specs.Plan.{plan}
use Rattle.pipe_plan.specs.Replay.{events_by, worker_of}
use Rattle.pipe_plan.specs.Run.{Run}
use Rattle.pipe_plan.proofs.Adding.{sum_to, sum_to-le, sum_to-range, sum_to-same, sum_to-tight}
use Rattle.pipe_plan.proofs.AllRows.{count-parts}
use Rattle.pipe_plan.proofs.ChunkRows.{each-append}
use Rattle.pipe_plan.proofs.Filtering.{count-all, filter-no, filter-yes}
use Rattle.pipe_plan.proofs.NextEvent.{get-behind}
use Rattle.pipe_plan.proofs.Replaying.{events_by-push}

-- a journal has the events of each worker
length-journal : (r : Run) (journal : List PartitionEvent) → AreOfWorkers r journal → sum_to r.limits.workers (λ w. length (events_by w journal)) ≡ length journal
length-journal r journal ours =
    sum_to-same r.limits.workers _ (λ w. count_by (λ e. true) (events_by w journal)) (λ w lt. sym (count-all (λ e. true) (events_by w journal) (λ front back e is. refl)))
    ∙ count-parts (λ e. true) worker_of r.limits.workers journal (recursion_from_All (λ e. worker_of e < r.limits.workers) journal ours)
    ∙ count-all (λ e. true) journal (λ front back e is. refl)

-- what stands first
first-is : {A : Type 0} (xs : List A) (x : A) → slice_get xs 0 ≡ Some x → IsFront (x ∷ []) xs
first-is [] x there = absurd (none-some x there)
first-is (y ∷ xs) x there = record { rest = xs; is = ap (λ z. z ∷ xs) (ap (λ o. unwrap_or o y) there) }

-- a front with the element behind it is a front
front-next : {A : Type 0} (xs ys : List A) (x : A) → IsFront xs ys → slice_get ys (length xs) ≡ Some x → IsFront (xs ++ x ∷ []) ys
front-next {A = A} xs ys x f next =
    let there : slice_get f.rest 0 ≡ Some x =
    sym (get-behind xs f.rest 0) ∙ ap (λ k. slice_get (xs ++ f.rest) k) {x = length xs + 0} {y = length xs} (omega arith)
    ∙ sym (ap (λ (l : List A). slice_get l (length xs)) f.is) ∙ next in
    let one = first-is f.rest x there in
    record { rest = one.rest; is = f.is ∙ ap (λ (l : List A). xs ++ l) one.is ∙ sym (append_assoc xs (x ∷ []) one.rest) }

-- the next event of a plan keeps a journal within the plans
pub within-next : (r : Run) (p : ℕ) (journal : List PartitionEvent) (e : PartitionEvent) → IsWithin r p journal → worker_of e < r.limits.workers
    → slice_get (plan r (worker_of e) p) (length (events_by (worker_of e) journal)) ≡ Some e → IsWithin r p (journal ++ e ∷ [])
within-next r p journal e within lt next = record {
  workers = All-from_recursion (λ e. worker_of e < r.limits.workers) (journal ++ e ∷ [])
      (each-append (λ e. worker_of e < r.limits.workers) journal (e ∷ []) (recursion_from_All (λ e. worker_of e < r.limits.workers) journal within.workers) (lt, tt));
  plans = λ w below. ⊎_elim
      (λ mine.
      let own : events_by w (journal ++ e ∷ []) ≡ events_by w journal ++ e ∷ [] = events_by-push w journal e ∙ ap (λ (l : List PartitionEvent). events_by w journal ++ l) (filter-yes (λ e. worker_of e == w) e [] (eq-eqb (worker_of e) w mine)) in
      subst (λ (l : List PartitionEvent). IsFront l (plan r w p)) (sym own)
      (front-next (events_by w journal) (plan r w p) e (within.plans w below) (subst (λ v. slice_get (plan r v p) (length (events_by v journal)) ≡ Some e) mine next)))
      (λ other.
      let same : events_by w (journal ++ e ∷ []) ≡ events_by w journal = events_by-push w journal e ∙ ap (λ (l : List PartitionEvent). events_by w journal ++ l) (filter-no (λ e. worker_of e == w) e [] (ne_eqb (worker_of e) w other)) ∙ append-nil (events_by w journal) in
      subst (λ (l : List PartitionEvent). IsFront l (plan r w p)) (sym same) (within.plans w below))
      (cases_eq (worker_of e) w);
}

-- an empty journal lies within
pub within-none : (r : Run) (p : ℕ) → IsWithin r p []
within-none r p = record { workers = All-nil (λ e. worker_of e < r.limits.workers); plans = λ w lt. record { rest = plan r w p; is = refl } }

-- a front is no longer
front-le : {A : Type 0} (xs ys : List A) → IsFront xs ys → length xs ≤ length ys
front-le {A = A} xs ys f = omega (arith, ap (λ (l : List A). length l) f.is, length-append xs f.rest)

-- a front of the same length is the whole
front-whole : {A : Type 0} (xs ys : List A) → IsFront xs ys → length xs ≡ length ys → xs ≡ ys
front-whole {A = A} xs ys f is =
    let none : (l : List A) → l ≡ f.rest → [] ≡ f.rest = elim [
      | [] ↦ λ e. e
      | x ∷ l ↦ λ e. absurd (omega (arith, ap (λ (l : List A). length l) e, ap (λ (l : List A). length l) f.is, length-append xs f.rest, is))
    ] in
    sym (f.is ∙ ap (λ (l : List A). xs ++ l) (sym (none f.rest refl)) ∙ append-nil xs)

-- in one partition
pub whole-one : (r : Run) (p : ℕ) (journal : List PartitionEvent) → IsWithin r p journal → sum_to r.limits.workers (λ w. length (plan r w p)) ≤ length journal → IsWhole r p journal
whole-one r p journal within all = record {
  workers = within.workers;
  plans = λ w lt. front-whole (events_by w journal) (plan r w p) (within.plans w lt)
      (sum_to-tight r.limits.workers (λ w. length (events_by w journal)) (λ w. length (plan r w p)) (λ w lt. front-le (events_by w journal) (plan r w p) (within.plans w lt)) (omega (arith, all, length-journal r journal within.workers)) w lt);
}

-- in all
pub whole-all : (r : Run) (journals : List (List PartitionEvent)) → AreWithin r journals → planned_count r ≤ journal_count r journals → AreWhole r journals
whole-all r journals within all p lt =
    let made : ℕ → ℕ = λ p. length (journal_of journals p) in
    let planned : ℕ → ℕ = λ p. sum_to r.limits.workers (λ w. length (plan r w p)) in
    let fewer : (p : ℕ) → p < r.limits.partitions → made p ≤ planned p = λ p lt.
    omega (arith, length-journal r (journal_of journals p) (within p lt).workers, sum_to-le r.limits.workers (λ w. length (events_by w (journal_of journals p))) (λ w. length (plan r w p)) (λ w below. front-le _ _ ((within p lt).plans w below))) in
    let planned_is : planned_count r ≡ sum_to r.limits.partitions planned =
    sum_to-range r.limits.partitions (λ p. sum_by (λ w. length (plan r w p)) (range_with_len 0 r.limits.workers)) ∙ sum_to-same r.limits.partitions _ planned (λ p lt. sum_to-range r.limits.workers (λ w. length (plan r w p))) in
    let made_is : journal_count r journals ≡ sum_to r.limits.partitions made = sum_to-range r.limits.partitions made in
    whole-one r p (journal_of journals p) (within p lt) (omega (arith, sum_to-tight r.limits.partitions made planned fewer (omega (arith, all, planned_is, made_is)) p lt))
