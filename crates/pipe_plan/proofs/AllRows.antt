-- The rows that workers keep and those that partitions hold are all rows, each once.
use Rattle.std.proofs.Common.{◌≡◌, ℕ, ◌+◌, ◌/◌, ◌%◌, ◌<◌, ◌==◌, Bool, true, false, not, ◌&&◌, cond, List, [], ◌∷◌, ◌++◌, length, refl, ap, sym, ◌∙◌, subst, arith, length-append, ⊎_elim}
use Rattle.std.specs.Prelude.{if◌then◌else◌}
use Rattle.std.specs.List.{AllByRecursion, count_by, filter, flat_map, range_with_len, sum_by}
use Rattle.std.specs.Set.{is_member}
use Rattle.std.proofs.lemmas.Bool.{cases_Bool, eq-eqb, ne_eqb}
use Rattle.std.proofs.lemmas.List.{take_all}
use Rattle.std.proofs.Math.Nat.{mod-lt}
use Rattle.pipe_columns.specs.Pieces.{pieces}
use Rattle.pipe_columns.specs.Row.{Row}
use Rattle.pipe_model.specs.Answer.{answer, answer_of}
use Rattle.pipe_model.specs.Counts.{CountAlike}
use Rattle.pipe_model.specs.Rows.{keys_of, rows}
use Rattle.pipe_model.proofs.CountFacts.{count-append, count-cons}
use Rattle.pipe_model.proofs.GroupFacts.{answer-alike}
use Rattle.pipe_model.proofs.RowPlaces.{rows-distinct}
use Rattle.pipe_plan.specs.Journals.{AreWhole, IsWhole, journal_of}
use Rattle.pipe_plan.specs.Whole.{all_kept, kept_rows, replayed_rows, rows_held, rows_of, sent_to}
use Rattle.pipe_plan.specs.declared.event.PartitionEvent.{PartitionEvent}
use Rattle.pipe_plan.specs.Kept.{distinct, first_distinct, is_kept, same_key}
use Rattle.pipe_plan.specs.Overflow.{overflow, overflow_count, overflows, partition_of}
use Rattle.pipe_plan.specs.Payloads.{full_pieces, payloads, rest_of}
use Rattle.pipe_plan.specs.Plan.{events_before, last_events, plan}
use Rattle.pipe_plan.specs.Replay.{arrivals, events_by, is_arrival, joined_lists, replay}
use Rattle.pipe_plan.specs.Run.{all_rows, is_generic, of_worker, Run}
use Rattle.pipe_plan.proofs.Adding.{count-over, sum_to, sum_to-both, sum_to-one, sum_to-range, sum_to-same, sum_to-swap, sum_to-zero}
use Rattle.pipe_plan.proofs.AtEnd.{last-none, last-one, last-open}
use Rattle.pipe_plan.proofs.ChunkRows.{each-any}
use Rattle.pipe_plan.proofs.Cutting.{full-short, joined-pieces, last_piece, length-full, pieces-full_rest}
use Rattle.pipe_plan.proofs.Filtering.{count-all, filter-filter, filter-no, filter-none, filter-same, filter-yes}
use Rattle.pipe_plan.proofs.Keeping.{is_member-distinct}
use Rattle.pipe_plan.proofs.Longer.{keys-has, keys_exact}
use Rattle.pipe_plan.proofs.NextEvent.{plan-generic, plan-typed}
use Rattle.pipe_plan.proofs.Planning.{arrivals-before}
use Rattle.pipe_plan.proofs.Replaying.{replay-rows, taken}
use Rattle.pipe_plan.proofs.Turning.{sent-all}

-- ---- typed sinks

-- a typed sink keeps all, so nothing overflows
pub overflow-typed : (r : Run) (w p : ℕ) → is_generic r.limits.sink ≡ false → overflow r w p ≡ []
overflow-typed r w p typed =
    filter-none (overflows r w p) (of_worker r w)
    (λ front back x is.
    let keys = keys_of (of_worker r w) in
    let kept : is_kept r w x ≡ true =
    ap (λ b. is_member same_key (if b then first_distinct same_key (r.limits.spill_size + 1) keys else distinct same_key keys) x.key) typed
    ∙ is_member-distinct same_key keys_exact keys x.key
    ∙ ap (λ (l : List Row). is_member same_key (keys_of l) x.key) is ∙ keys-has front back x in
    ap (λ b. (partition_of r x == p) && not b) kept ∙ and-false (partition_of r x == p))
  where
    and-false : (b : Bool) → (b && false) ≡ false
    and-false true = refl
    and-false false = refl

-- ---- as many arrivals as pieces

-- a rest that is something is one piece
one_last : (w : ℕ) (l : List Row) → 0 < length l → length (last_piece l) ≡ 1
one_last w [] some = absurd (omega arith)
one_last w (x ∷ l) some = refl

-- in a generic sink
arrivals-generic : (r : Run) (w p : ℕ) → 0 < r.limits.buffer_size → is_generic r.limits.sink ≡ true → arrivals (plan r w p) ≡ length (payloads r w p)
arrivals-generic r w p some generic =
    let b = r.limits.buffer_size in
    let rows = overflow r w p in
    let full : arrivals (events_before r w p (length r.chunks)) ≡ length (full_pieces b rows) =
    arrivals-before r w p (length r.chunks) some ∙ ap (λ k. k / b) (sent-all r w p) ∙ sym (length-full b rows some) in
    let parts = ap arrivals (plan-generic r w p generic) ∙ count-append is_arrival (events_before r w p (length r.chunks)) (last_events r w p) in
    ⊎_elim
    (λ opened.
    let all : length (payloads r w p) ≡ length (full_pieces b rows) = ap (λ o. length (if o then full_pieces b rows else pieces b rows)) opened in
    let none : arrivals (last_events r w p) ≡ 0 = ap arrivals (last-open r w p opened) in
    omega (arith, full, parts, all, none))
    (λ shut.
    let all : length (payloads r w p) ≡ length (full_pieces b rows) + length (last_piece (rest_of b rows)) =
    ap (λ o. length (if o then full_pieces b rows else pieces b rows)) shut ∙ ap (λ (ps : List (List Row)). length ps) (pieces-full_rest b rows some) ∙ length-append (full_pieces b rows) (last_piece (rest_of b rows)) in
    let last : (l : List Row) → l ≡ rest_of b rows → arrivals (last_events r w p) ≡ length (last_piece l) = elim [
      | [] ↦ λ is. ap arrivals (last-none r w p some (sym is))
      | x ∷ l ↦ λ is. ap arrivals (last-one r w p some shut (subst (λ (l : List Row). 0 < length l) is (omega arith)))
    ] in
    omega (arith, full, parts, all, last (rest_of b rows) refl))
    (cases_Bool r.is_open)

-- the plan lets all pieces arrive
pub arrivals-plan : (r : Run) (w p : ℕ) → 0 < r.limits.buffer_size → arrivals (plan r w p) ≡ length (payloads r w p)
arrivals-plan r w p some = ⊎_elim
    (λ generic. arrivals-generic r w p some generic)
    (λ typed.
    let b = r.limits.buffer_size in
    let none : length (payloads r w p) ≡ 0 =
    ap (λ (rows : List Row). length (if r.is_open then full_pieces b rows else pieces b rows)) (overflow-typed r w p typed) ∙ (
    elim r.is_open as (λ (o : Bool). length (if o then full_pieces {A = Row} b [] else pieces {A = Row} b []) ≡ 0) [ true ↦ ap (λ (ps : List (List Row)). length ps) (full-short b [] some) | false ↦ refl ]) in
    ap arrivals (plan-typed r w p typed) ∙ sym none)
    (cases_Bool (is_generic r.limits.sink))

-- ---- one partition

-- all pieces of a closed run are its overflow, in order
pub joined-payloads : (r : Run) (w p : ℕ) → 0 < r.limits.buffer_size → r.is_open ≡ false → joined_lists (payloads r w p) ≡ overflow r w p
joined-payloads r w p some shut =
    ap (λ o. joined_lists (if o then full_pieces r.limits.buffer_size (overflow r w p) else pieces r.limits.buffer_size (overflow r w p))) shut
    ∙ joined-pieces r.limits.buffer_size (overflow r w p) some

-- where a journal holds the plans whole, the partition holds what was sent to it
pub partition-whole : (r : Run) (p : ℕ) (journal : List PartitionEvent) → 0 < r.limits.buffer_size → r.is_open ≡ false → IsWhole r p journal → CountAlike (rows_of (replay r p journal)) (sent_to r p)
partition-whole r p journal some shut whole = λ test.
    replay-rows test r p journal whole.workers
    ∙ sum_to-same r.limits.workers (taken test r p journal) (λ w. count_by test (overflow r w p))
    (λ w lt.
    let all : arrivals (events_by w journal) ≡ length (payloads r w p) = ap arrivals (whole.plans w lt) ∙ arrivals-plan r w p some in
    ap (λ (ps : List (List Row)). count_by test (joined_lists ps)) (take_all (arrivals (events_by w journal)) (payloads r w p) (omega (arith, all)))
    ∙ ap (λ (l : List Row). count_by test l) (joined-payloads r w p some shut))
    ∙ sym (count-over test (λ w. overflow r w p) r.limits.workers)

-- ---- all of them

-- what passes a test and what doesn't are all
pub count-both : {A : Type 0} (test keep : A → Bool) (xs : List A) → count_by test (filter keep xs) + count_by test (filter (λ x. not (keep x)) xs) ≡ count_by test xs
count-both test keep [] = refl
count-both {A = A} test keep (x ∷ xs) =
    let rest = count-both test keep xs in
    ⊎_elim
    (λ held. omega (arith, rest, count-cons test x xs, count-cons test x (filter keep xs), ap (λ (l : List A). count_by test l) (filter-yes keep x xs held), ap (λ (l : List A). count_by test l) (filter-no (λ x. not (keep x)) x xs (ap not held))))
    (λ left. omega (arith, rest, count-cons test x xs, count-cons test x (filter (λ x. not (keep x)) xs), ap (λ (l : List A). count_by test l) (filter-no keep x xs left), ap (λ (l : List A). count_by test l) (filter-yes (λ x. not (keep x)) x xs (ap not left))))
    (cases_Bool (keep x))

-- parts by a number below a bound are all
pub count-parts : {A : Type 0} (test : A → Bool) (part : A → ℕ) (n : ℕ) (xs : List A) → AllByRecursion (λ x. part x < n) xs → sum_to n (λ k. count_by test (filter (λ x. part x == k) xs)) ≡ count_by test xs
count-parts test part n [] within = sum_to-zero n
count-parts {A = A} test part n (x ∷ xs) within =
    let after : ℕ → ℕ = λ k. count_by test (filter (λ x. part x == k) (x ∷ xs)) in
    let before : ℕ → ℕ = λ k. count_by test (filter (λ x. part x == k) xs) in
    let own : after (part x) ≡ before (part x) + cond (test x) 1 0 =
    ap (λ (l : List A). count_by test l) (filter-yes (λ y. part y == part x) x xs (eq-eqb (part x) (part x) refl)) ∙ omega (arith, count-cons test x (filter (λ y. part y == part x) xs)) in
    let one = sum_to-one n after before (part x) (cond (test x) 1 0) within.0 own
    (λ k apart. ap (λ (l : List A). count_by test l) (filter-no (λ y. part y == k) x xs (ne_eqb (part x) k (λ is. apart (sym is))))) in
    omega (arith, one, count-parts test part n xs within.1, count-cons test x xs)

-- a worker's rows are kept, or overflow into some partition
worker-parts : (test : Row → Bool) (r : Run) (w : ℕ) → 0 < r.limits.partitions
    → count_by test (kept_rows r w) + sum_to r.limits.partitions (λ p. count_by test (overflow r w p)) ≡ count_by test (of_worker r w)
worker-parts test r w some =
    let left = filter (λ x. not (is_kept r w x)) (of_worker r w) in
    let part : (p : ℕ) → overflow r w p ≡ filter (λ x. partition_of r x == p) left = λ p.
    filter-same (overflows r w p) (λ x. not (is_kept r w x) && (partition_of r x == p)) (of_worker r w) (λ x. and-swap (partition_of r x == p) (not (is_kept r w x)))
    ∙ sym (filter-filter (λ x. partition_of r x == p) (λ x. not (is_kept r w x)) (of_worker r w)) in
    let all = sum_to-same r.limits.partitions (λ p. count_by test (overflow r w p)) (λ p. count_by test (filter (λ x. partition_of r x == p) left)) (λ p lt. ap (λ (l : List Row). count_by test l) (part p))
    ∙ count-parts test (partition_of r) r.limits.partitions left (each-any (λ x. partition_of r x < r.limits.partitions) left (λ x. mod-lt _ some)) in
    omega (arith, all, count-both test (is_kept r w) (of_worker r w))
  where
    and-swap : (a b : Bool) → (a && b) ≡ (b && a)
    and-swap true true = refl
    and-swap true false = refl
    and-swap false true = refl
    and-swap false false = refl

-- workers keep, and partitions are sent, all rows
pub kept-sent : (r : Run) → 0 < r.limits.workers → 0 < r.limits.partitions
    → CountAlike (all_kept r ++ flat_map (sent_to r) (range_with_len 0 r.limits.partitions)) (all_rows r)
kept-sent r workers partitions = λ test.
    let keep : ℕ → ℕ = λ w. count_by test (kept_rows r w) in
    let over : ℕ → ℕ → ℕ = λ w p. count_by test (overflow r w p) in
    let sent : count_by test (flat_map (sent_to r) (range_with_len 0 r.limits.partitions)) ≡ sum_to r.limits.partitions (λ p. sum_to r.limits.workers (λ w. over w p)) =
    count-over test (sent_to r) r.limits.partitions ∙ sum_to-same r.limits.partitions _ _ (λ p lt. count-over test (λ w. overflow r w p) r.limits.workers) in
    let each = sum_to-same r.limits.workers (λ w. keep w + sum_to r.limits.partitions (over w)) (λ w. count_by test (of_worker r w)) (λ w lt. worker-parts test r w partitions) in
    let dealt = count-parts test (λ (x : Row). x.place.chunk % r.limits.workers) r.limits.workers (all_rows r) (each-any (λ (x : Row). x.place.chunk % r.limits.workers < r.limits.workers) (all_rows r) (λ x. mod-lt x.place.chunk workers)) in
    omega (
      arith,
      count-append test (all_kept r) (flat_map (sent_to r) (range_with_len 0 r.limits.partitions)),
      count-over test (kept_rows r) r.limits.workers,
      sent,
      sum_to-swap r.limits.workers r.limits.partitions over,
      sum_to-both r.limits.workers keep (λ w. sum_to r.limits.partitions (over w)),
      each,
      dealt,
    )

-- where each journal holds the plans whole, workers and partitions hold all rows
pub all-held : (r : Run) (journals : List (List PartitionEvent)) → 0 < r.limits.workers → 0 < r.limits.partitions → 0 < r.limits.buffer_size → r.is_open ≡ false
    → AreWhole r journals → CountAlike (rows_held r journals) (all_rows r)
all-held r journals workers partitions some shut whole = λ test.
    let held = count-over test (λ p. rows_of (replay r p (journal_of journals p))) r.limits.partitions
    ∙ sum_to-same r.limits.partitions _ (λ p. count_by test (sent_to r p)) (λ p lt. partition-whole r p (journal_of journals p) some shut (whole p lt) test)
    ∙ sym (count-over test (sent_to r) r.limits.partitions) in
    omega (arith, held, count-append test (all_kept r) (replayed_rows r journals), count-append test (all_kept r) (flat_map (sent_to r) (range_with_len 0 r.limits.partitions)), kept-sent r workers partitions test)

-- so their answer is that of the chunks
pub answer-held : (r : Run) (journals : List (List PartitionEvent)) (partitions : ℕ) → 0 < r.limits.workers → 0 < r.limits.partitions → 0 < r.limits.buffer_size → r.is_open ≡ false
    → AreWhole r journals → answer r.chunks r.query partitions ≡ answer_of (rows_held r journals) r.query partitions
answer-held r journals n workers partitions some shut whole =
    answer-alike (rows r.chunks r.query) (rows_held r journals) r.query n (λ test. sym (all-held r journals workers partitions some shut whole test)) (λ _. rows-distinct r.chunks r.query)

-- partitions then hold as many rows as overflow
pub overflow-held : (r : Run) (journals : List (List PartitionEvent)) → 0 < r.limits.buffer_size → r.is_open ≡ false → AreWhole r journals → length (replayed_rows r journals) ≡ overflow_count r
overflow-held r journals some shut whole =
    let n = r.limits.workers in
    let m = r.limits.partitions in
    let every : (xs : List Row) → count_by (λ x. true) xs ≡ length xs = λ xs. count-all (λ x. true) xs (λ front back x is. refl) in
    let held : count_by (λ x. true) (replayed_rows r journals) ≡ sum_to m (λ p. sum_to n (λ w. length (overflow r w p))) =
    count-over (λ x. true) (λ p. rows_of (replay r p (journal_of journals p))) m
    ∙ sum_to-same m _ _ (λ p lt. partition-whole r p (journal_of journals p) some shut (whole p lt) (λ x. true) ∙ count-over (λ x. true) (λ w. overflow r w p) n ∙ sum_to-same n _ _ (λ w lt. every (overflow r w p))) in
    sym (every (replayed_rows r journals))
    ∙ held
    ∙ sum_to-swap m n (λ p w. length (overflow r w p))
    ∙ sym (sum_to-range n (λ w. sum_by (λ p. length (overflow r w p)) (range_with_len 0 m)) ∙ sum_to-same n _ _ (λ w lt. sum_to-range m (λ p. length (overflow r w p))))
