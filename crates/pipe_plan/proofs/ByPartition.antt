-- Partition by partition: the rows kept of it and those that it holds give its groups.
use Rattle.std.proofs.Common.{◌≡◌, ℕ, ◌+◌, ◌%◌, ◌<◌, ◌==◌, Bool, true, false, not, ◌&&◌, cond, List, [], ◌∷◌, map, refl, ap, sym, ◌∙◌, arith, ⊎_elim}
use Rattle.std.specs.List.{AllByRecursion, count_by, filter, flat_map, IsDistinct, range_with_len}
use Rattle.std.specs.Ordering.{eq_by_cmp}
use Rattle.std.proofs.lemmas.Bool.{cases_Bool, false≢true}
use Rattle.pipe_columns.specs.declared.any_value.AnyValue.{AnyValue}
use Rattle.pipe_columns.specs.declared.place.Place.{Place}
use Rattle.pipe_columns.specs.Groups.{sorted_keys}
use Rattle.pipe_columns.specs.Place.{place_cmp}
use Rattle.pipe_columns.specs.Row.{Row}
use Rattle.pipe_model.specs.Answer.{answer_row, groups, tuple_cmp}
use Rattle.pipe_model.specs.Counts.{CountAlike}
use Rattle.pipe_model.specs.Partitions.{groups_in, rows_in}
use Rattle.pipe_model.specs.Rows.{HaveDistinctPlaces, keys_of}
use Rattle.pipe_model.proofs.CountFacts.{count-append, count-cons}
use Rattle.pipe_model.proofs.GroupFacts.{groups-alike}
use Rattle.pipe_model.proofs.PartitionFacts.{answers-joined, groups-alone, groups-joined}
use Rattle.pipe_model.proofs.RowFacts.{answer_row-alike}
use Rattle.pipe_model.proofs.RowPlaces.{rows-distinct}
use Rattle.pipe_plan.specs.Journals.{AreWhole, journal_of}
use Rattle.pipe_plan.specs.Whole.{all_kept, kept_rows, partition_rows, rows_of}
use Rattle.pipe_plan.specs.declared.event.PartitionEvent.{PartitionEvent}
use Rattle.pipe_plan.specs.Kept.{is_kept}
use Rattle.pipe_plan.specs.Overflow.{overflow, overflows, partition_of}
use Rattle.pipe_plan.specs.Replay.{replay}
use Rattle.pipe_plan.specs.Run.{all_rows, of_worker, Run}
use Rattle.pipe_plan.proofs.Adding.{count-over, sum_to-both, sum_to-same}
use Rattle.pipe_plan.proofs.AllRows.{count-both, count-parts, partition-whole}
use Rattle.pipe_plan.proofs.ChunkRows.{each-any, range-at}
use Rattle.pipe_plan.proofs.Filtering.{count-filter, count-none, count-same, filter-yes}
use Rattle.pipe_plan.proofs.Turning.{flat_map-within}

-- ---- the rows of a partition

-- a worker's rows of a partition are kept, or overflow into it
worker-in : (test : Row → Bool) (r : Run) (w p : ℕ)
    → count_by (λ x. (partition_of r x == p) && test x) (kept_rows r w) + count_by test (overflow r w p) ≡ count_by (λ x. (partition_of r x == p) && test x) (of_worker r w)
worker-in test r w p =
    let here : Row → Bool = λ x. (partition_of r x == p) && test x in
    let sent : count_by test (overflow r w p) ≡ count_by here (filter (λ x. not (is_kept r w x)) (of_worker r w)) =
    count-filter test (overflows r w p) (of_worker r w)
    ∙ count-same (λ x. overflows r w p x && test x) (λ x. not (is_kept r w x) && here x) (of_worker r w) (λ x. moved (partition_of r x == p) (not (is_kept r w x)) (test x))
    ∙ sym (count-filter here (λ x. not (is_kept r w x)) (of_worker r w)) in
    omega (arith, sent, count-both here (is_kept r w) (of_worker r w))
  where
    moved : (a b c : Bool) → ((a && b) && c) ≡ (b && (a && c))
    moved true true c = refl
    moved true false c = refl
    moved false true c = refl
    moved false false c = refl

-- the rows of a partition are all rows whose keys lie there
pub partition-alike : (r : Run) (journals : List (List PartitionEvent)) (p : ℕ) → 0 < r.limits.workers → 0 < r.limits.buffer_size → r.is_open ≡ false → p < r.limits.partitions
    → AreWhole r journals → CountAlike (partition_rows r journals p) (rows_in r.limits.partitions r.query p (all_rows r))
partition-alike r journals p workers some shut lt whole = λ test.
    let here : Row → Bool = λ x. (partition_of r x == p) && test x in
    let held : Row → Bool = λ x. partition_of r x == p in
    let n = r.limits.workers in
    let keep = count-filter test held (all_kept r) ∙ count-over here (kept_rows r) n in
    let sent = partition-whole r p (journal_of journals p) some shut (whole p lt) test ∙ count-over test (λ w. overflow r w p) n in
    let each = sum_to-same n (λ w. count_by here (kept_rows r w) + count_by test (overflow r w p)) (λ w. count_by here (of_worker r w)) (λ w below. worker-in test r w p) in
    let dealt = count-parts here (λ (x : Row). x.place.chunk % n) n (all_rows r) (each-any _ (all_rows r) (λ x. omega arith)) in
    omega (
      arith,
      count-append test (rows_in r.limits.partitions r.query p (all_kept r)) (rows_of (replay r p (journal_of journals p))),
      keep,
      sent,
      sum_to-both n (λ w. count_by here (kept_rows r w)) (λ w. count_by test (overflow r w p)),
      each,
      dealt,
      count-filter test held (all_rows r),
    )

-- ---- their groups

-- what counts no element that fails a test keeps all
all-pass : {A : Type 0} (keep : A → Bool) (xs : List A) → count_by (λ x. not (keep x)) xs ≡ 0 → filter keep xs ≡ xs
all-pass keep [] none = refl
all-pass {A = A} keep (x ∷ xs) none = ⊎_elim
    (λ held. filter-yes keep x xs held ∙ ap (λ (l : List A). x ∷ l) (all-pass keep xs (omega (arith, none, count-cons (λ x. not (keep x)) x xs))))
    (λ left. absurd (omega (arith, none, count-cons (λ x. not (keep x)) x xs, ap one_if (ap not left))))
    (cases_Bool (keep x))
  where
    one_if : Bool → ℕ
    one_if b = cond b 1 0

-- rows that count as a partition's own are its own
own-rows : (r : Run) (p : ℕ) (xs : List Row) → CountAlike xs (rows_in r.limits.partitions r.query p (all_rows r)) → rows_in r.limits.partitions r.query p xs ≡ xs
own-rows r p xs alike =
    let here : Row → Bool = λ x. partition_of r x == p in
    all-pass here xs
    (alike (λ x. not (here x)) ∙ count-filter (λ x. not (here x)) here (all_rows r) ∙ count-same (λ x. here x && not (here x)) (λ x. false) (all_rows r) (λ x. never (here x)) ∙ count-none (λ x. false) (all_rows r) (λ front back x is. refl))
  where
    never : (b : Bool) → (b && not b) ≡ false
    never true = refl
    never false = refl

-- places that stand once do among what a filter keeps
apart-filter : (test : Row → Bool) (q : Place) (rs : List Row) → AllByRecursion (λ p. eq_by_cmp place_cmp q p ≡ false) (map (λ r. r.place) rs) → AllByRecursion (λ p. eq_by_cmp place_cmp q p ≡ false) (map (λ r. r.place) (filter test rs))
apart-filter test q [] all = tt
apart-filter test q (x ∷ rs) all =
    let rest = apart-filter test q rs all.1 in
    elim (test x) as (λ b. AllByRecursion (λ p. eq_by_cmp place_cmp q p ≡ false) (map (λ r. r.place) (cond b (x ∷ filter test rs) (filter test rs)))) [ true ↦ (all.0, rest) | false ↦ rest ]

-- so a filter keeps places apart
distinct-filter : (test : Row → Bool) (rs : List Row) → HaveDistinctPlaces rs → HaveDistinctPlaces (filter test rs)
unfolding IsDistinct
distinct-filter test [] apart = tt
distinct-filter test (x ∷ rs) apart =
    let rest = distinct-filter test rs apart.1 in
    elim (test x) as (λ b. HaveDistinctPlaces (cond b (x ∷ filter test rs) (filter test rs))) [ true ↦ (apart-filter test x.place rs apart.0, rest) | false ↦ rest ]

module _ (r : Run) (journals : List (List PartitionEvent)) (workers : 0 < r.limits.workers) (partitions : 0 < r.limits.partitions) (some : 0 < r.limits.buffer_size) (shut : r.is_open ≡ false)
    (unordered : r.query.keeps_order ≡ false) (whole : AreWhole r journals) where
  -- the groups of a partition are the sorted keys of its rows
  pub partition-groups : (p : ℕ) → p < r.limits.partitions → groups_in r.limits.partitions r.query p (all_rows r) ≡ sorted_keys tuple_cmp (keys_of (partition_rows r journals p))
  partition-groups p lt =
      let n = r.limits.partitions in
      let mine = partition_rows r journals p in
      let alike = partition-alike r journals p workers some shut lt whole in
      let own : rows_in n r.query p mine ≡ mine = own-rows r p mine alike in
      let all : rows_in n r.query p (all_rows r) ≡ rows_in n r.query p (all_rows r) = refl in
      sym (groups-alone (all_rows r) r.query n p unordered)
      ∙ groups-alike (rows_in n r.query p (all_rows r)) mine r.query n (λ test. sym (alike test)) (λ kept. absurd (false≢true (sym unordered ∙ kept)))
      ∙ ap (λ (l : List Row). groups l r.query n) (sym own)
      ∙ groups-alone mine r.query n p unordered
      ∙ ap (λ (l : List Row). sorted_keys tuple_cmp (keys_of l)) own

  -- and all groups are those of each partition, joined
  pub groups-held : groups (all_rows r) r.query r.limits.partitions ≡ flat_map (λ p. sorted_keys tuple_cmp (keys_of (partition_rows r journals p))) (range_with_len 0 r.limits.partitions)
  groups-held =
      groups-joined (all_rows r) r.query r.limits.partitions unordered partitions
      ∙ flat_map-within (λ p. groups_in r.limits.partitions r.query p (all_rows r)) (λ p. sorted_keys tuple_cmp (keys_of (partition_rows r journals p))) (range_with_len 0 r.limits.partitions)
      (λ front back p is. partition-groups p (range-at r.limits.partitions front back p is))

  -- with the aggregates of its rows
  pub answers-held : map (answer_row r.query (all_rows r)) (groups (all_rows r) r.query r.limits.partitions)
      ≡ flat_map (λ p. map (answer_row r.query (partition_rows r journals p)) (sorted_keys tuple_cmp (keys_of (partition_rows r journals p)))) (range_with_len 0 r.limits.partitions)
  answers-held =
      answers-joined (all_rows r) r.query r.limits.partitions unordered partitions
      ∙ flat_map-within
      (λ p. map (answer_row r.query (rows_in r.limits.partitions r.query p (all_rows r))) (groups_in r.limits.partitions r.query p (all_rows r)))
      (λ p. map (answer_row r.query (partition_rows r journals p)) (sorted_keys tuple_cmp (keys_of (partition_rows r journals p)))) (range_with_len 0 r.limits.partitions)
      (λ front back p is. one p (range-at r.limits.partitions front back p is))
    where
      one : (p : ℕ) → p < r.limits.partitions
          → map (answer_row r.query (rows_in r.limits.partitions r.query p (all_rows r))) (groups_in r.limits.partitions r.query p (all_rows r))
          ≡ map (answer_row r.query (partition_rows r journals p)) (sorted_keys tuple_cmp (keys_of (partition_rows r journals p)))
      one p lt =
          let theirs = rows_in r.limits.partitions r.query p (all_rows r) in
          let mine = partition_rows r journals p in
          let same : (key : List AnyValue) → answer_row r.query theirs key ≡ answer_row r.query mine key = λ key.
          answer_row-alike theirs mine r.query key (λ test. sym (partition-alike r journals p workers some shut lt whole test)) (λ _. distinct-filter (λ x. partition_of r x == p) (all_rows r) (rows-distinct r.chunks r.query)) in
          λ i. map (λ key. same key i) (partition-groups p lt i)
