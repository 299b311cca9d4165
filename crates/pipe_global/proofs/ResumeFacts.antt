-- Partitions that a run takes over: one after another, and their events by partition and by worker.
use Rattle.std.proofs.Common.{◌≡◌, ◌∙◌, ◌+◌, ◌<◌, ℕ, suc, true, List, [], ◌∷◌, ◌++◌, length, sum, take, refl, sym, ap, subst, arith, add-one, length-append, ⊎_elim}
use Rattle.std.specs.List.{count_by, slice_index_or}
use Rattle.std.proofs.lemmas.Bool.{cases_lt}
use Rattle.std.proofs.lemmas.List.{get_or_append_left, get_or_push, map_push, take_more}
use Rattle.std.proofs.lemmas.List.Elements.{recursion_from_All}
use Rattle.std.proofs.lemmas.List.Sums.{sum_by-cons}
use Rattle.pipe_plan.specs.declared.event.PartitionEvent.{PartitionEvent}
use Rattle.pipe_plan.specs.Journals.{AreOfWorkers}
use Rattle.pipe_plan.specs.Replay.{events_by, worker_of}
use Rattle.pipe_plan.specs.Run.{Run}
use Rattle.pipe_plan.proofs.Adding.{sum_to, sum_to-both, sum_to-range, sum_to-same, sum_to-zero}
use Rattle.pipe_plan.proofs.AllRows.{count-parts}
use Rattle.pipe_plan.proofs.Filtering.{count-all}
use Rattle.pipe_global.specs.Closed.{all_events}
use Rattle.pipe_global.specs.Partition.{IsReplayed, PartitionSeen}
use Rattle.pipe_global.specs.Resuming.{all_books, AreResumed, AreTakenOver, books_of, IsTakenOver, resumed_shares}
use Rattle.pipe_global.specs.Shares.{SharesSeen}

-- ---- one after another

-- what each of a list has at its place, each of the rest has at the next
pub rest-each : {A : Type 0} (P : ℕ → A → Type 0) (xs : List A) (x : A) (ys : List A) → xs ≡ x ∷ ys → ((k : ℕ) (d : A) → k < length xs → P k (slice_index_or xs k d)) → (k : ℕ) (d : A) → k < length ys → P (k + 1) (slice_index_or ys k d)
rest-each {A = A} P xs x ys is each k d lt =
    let h : P (suc k) (slice_index_or xs (suc k) d) = each (suc k) d (omega (arith, ap (λ (l : List A). length l) is)) in
    let e : slice_index_or xs (suc k) d ≡ slice_index_or ys k d = ap (λ (l : List A). slice_index_or l (suc k) d) is in
    rw add-one (subst (λ (a : A). P (suc k) a) e h)

-- a partition is taken over under its own number
pub taken-own : (r : Run) (p : ℕ) (s : PartitionSeen) → IsTakenOver r p s → IsTakenOver r s.number s
taken-own r p s at = subst (λ n. IsTakenOver r n s) (sym at.replayed.number) at

-- ---- events by partition and by worker

-- a journal has the events of each worker
length-events : (r : Run) (journal : List PartitionEvent) → AreOfWorkers r journal → sum_to r.limits.workers (λ w. length (events_by w journal)) ≡ length journal
length-events r journal ours =
    sum_to-same r.limits.workers _ (λ w. count_by (λ e. true) (events_by w journal)) (λ w lt. sym (count-all (λ e. true) (events_by w journal) (λ front back e is. refl)))
    ∙ count-parts (λ e. true) worker_of r.limits.workers journal (recursion_from_All (λ e. worker_of e < r.limits.workers) journal ours)
    ∙ count-all (λ e. true) journal (λ front back e is. refl)

-- a journal is as long as the book adds up to
pub length-book : (r : Run) (p : ℕ) (s : PartitionSeen) → IsReplayed r p s → sum_to r.limits.workers (λ w. slice_index_or s.book w 0) ≡ length s.journal
length-book r p s at = sum_to-same r.limits.workers _ _ (λ w lt. at.book w lt) ∙ length-events r s.journal at.journal.workers

-- by worker there are as many as by partition
both-counts : (n : ℕ) (ps : List PartitionSeen) → ((p : ℕ) (d : PartitionSeen) → p < length ps → sum_to n (λ w. slice_index_or (slice_index_or ps p d).book w 0) ≡ length (slice_index_or ps p d).journal)
    → sum_to n (λ w. sum (books_of ps w)) ≡ all_events ps
both-counts n [] each = sum_to-zero n
both-counts n (s ∷ ps) each =
    let own : ℕ → ℕ = λ w. slice_index_or s.book w 0 in
    let others : ℕ → ℕ = λ w. sum (books_of ps w) in
    let here : sum_to n own ≡ length s.journal = each 0 s (omega arith) in
    let rest : sum_to n others ≡ all_events ps = both-counts n ps (λ p d lt. each (suc p) d (omega (arith, lt))) in
    let split : sum_to n (λ w. sum (books_of (s ∷ ps) w)) ≡ sum_to n (λ w. own w + others w) = sum_to-same n (λ w. sum (books_of (s ∷ ps) w)) (λ w. own w + others w) (λ w lt. sum_by-cons (λ (k : ℕ). k) (own w) (books_of ps w)) in
    let joined : all_events (s ∷ ps) ≡ length s.journal + all_events ps = sum_by-cons (λ (x : PartitionSeen). length x.journal) s ps in
    omega (arith, split, sum_to-both n own others, here, rest, joined)

-- the books of all workers say as many events as the journals hold
pub books-are-events : (r : Run) (ps : List PartitionSeen) → AreTakenOver r ps → all_books ps r.limits.workers ≡ all_events ps
books-are-events r ps are = sum_to-range r.limits.workers (λ w. sum (books_of ps w)) ∙ both-counts r.limits.workers ps (λ p d lt. length-book r p (slice_index_or ps p d) (are p d lt).replayed)

-- one partition more
pub books-next : (ps : List PartitionSeen) (w i : ℕ) (d : PartitionSeen) → i < length ps → books_of (take (i + 1) ps) w ≡ books_of (take i ps) w ++ slice_index_or (slice_index_or ps i d).book w 0 ∷ []
books-next ps w i d at =
    ap (λ (l : List PartitionSeen). books_of l w) (take_more ps i d at)
    ∙ map_push (λ (s : PartitionSeen). slice_index_or s.book w 0) (take i ps) (slice_index_or ps i d)

-- one worker more
pub books-more : (ps : List PartitionSeen) (n : ℕ) → all_books ps (n + 1) ≡ all_books ps n + sum (books_of ps n)
books-more ps n =
    let f : ℕ → ℕ = λ w. sum (books_of ps w) in
    sum_to-range (n + 1) f ∙ ap (λ k. sum_to k f) {x = n + 1} {y = suc n} (omega arith) ∙ ap (λ k. k + f n) (sym (sum_to-range n f))

-- ---- shares

-- the shares of one worker more
pub resumed-push : (ps : List PartitionSeen) (picks : List ℕ) (shares : List SharesSeen) (x : SharesSeen) (n : ℕ) → length shares ≡ n → AreResumed ps picks shares → x ≡ resumed_shares ps n (slice_index_or picks n 0) → AreResumed ps picks (shares ++ x ∷ [])
resumed-push ps picks shares x n len are own w d lt = ⊎_elim
    (λ below. get_or_append_left shares (x ∷ []) d w below ∙ are w d below)
    (λ not_below.
    let at : length shares ≡ w = omega (arith, lt, not_below, length-append shares (x ∷ [])) in
    get_or_push shares x d w at ∙ own ∙ ap (λ k. resumed_shares ps k (slice_index_or picks k 0)) {x = n} {y = w} (omega (arith, at, len)))
    (cases_lt w (length shares))
