-- Where all workers made all events of their plans, the partitions hold the plans whole.
use Rattle.std.proofs.Common.{◌≡◌, ◌∙◌, ◌+◌, ◌<◌, ℕ, zero, suc, List, [], ◌∷◌, length, map, refl, sym, ap, subst, arith}
use Rattle.std.specs.List.{range_with_len, slice_index_or, sum, sum_by}
use Rattle.std.proofs.lemmas.List.{get_or-map}
use Rattle.std.proofs.lemmas.List.Sums.{sum_by-cons}
use Rattle.pipe_plan.specs.declared.event.PartitionEvent.{PartitionEvent}
use Rattle.pipe_plan.specs.Journals.{AreWhole, AreWithin, journal_count, journal_of, planned_count}
use Rattle.pipe_plan.specs.Plan.{plan}
use Rattle.pipe_plan.specs.Run.{Run}
use Rattle.pipe_plan.proofs.Adding.{sum_to, sum_to-range, sum_to-same, sum_to-swap}
use Rattle.pipe_plan.proofs.Counting.{whole-all}
use Rattle.pipe_global.specs.Closed.{all_events, all_shares, AreClosed}
use Rattle.pipe_global.specs.Partition.{PartitionSeen}
use Rattle.pipe_global.specs.Shares.{share_of, SharesSeen}
use Rattle.pipe_run.specs.Rounds.{AreWholeShares}

-- ---- sums over the positions of a list

sum_to-first : (n : ℕ) (f : ℕ → ℕ) → sum_to (suc n) f ≡ f 0 + sum_to n (λ k. f (suc k))
sum_to-first zero f = omega arith
sum_to-first (suc n) f = omega (arith, sum_to-first n f)

-- numbers of elements are added as those at positions
pub sum_by-positions : {A : Type 0} (f : A → ℕ) (d : A) (xs : List A) → sum_by f xs ≡ sum_to (length xs) (λ k. f (slice_index_or xs k d))
sum_by-positions f d [] = refl
sum_by-positions f d (x ∷ xs) =
    omega (arith, sum_by-cons f x xs, sum_by-positions f d xs, sum_to-first (length xs) (λ k. f (slice_index_or (x ∷ xs) k d)))

-- and so are numbers
pub sum-positions : (xs : List ℕ) → sum xs ≡ sum_to (length xs) (λ k. slice_index_or xs k 0)
sum-positions xs = sum_by-positions (λ (x : ℕ). x) 0 xs

-- ---- the journals of partitions

abbrev pub journals_of : List PartitionSeen → List (List PartitionEvent)
journals_of partitions = map (λ s. s.journal) partitions

pub journal-at : (partitions : List PartitionSeen) (p : ℕ) (d : PartitionSeen) → p < length partitions → journal_of (journals_of partitions) p ≡ (slice_index_or partitions p d).journal
journal-at partitions p d lt = get_or-map (λ (s : PartitionSeen). s.journal) partitions p d [] lt

-- closed partitions hold fronts of the plans
pub closed-within : (r : Run) (partitions : List PartitionSeen) (d : PartitionSeen) → length partitions ≡ r.limits.partitions → AreClosed r partitions → AreWithin r (journals_of partitions)
closed-within r partitions d count closed p lt =
    let below : p < length partitions = omega (arith, count, lt) in
    subst (λ j. Rattle.pipe_plan.specs.Journals.IsWithin r p j) (sym (journal-at partitions p d below)) (closed p d below).replayed.journal

-- they hold as many events as are counted
pub closed-count : (r : Run) (partitions : List PartitionSeen) (d : PartitionSeen) → length partitions ≡ r.limits.partitions → journal_count r (journals_of partitions) ≡ all_events partitions
closed-count r partitions d count =
    sum_to-range r.limits.partitions (λ p. length (journal_of (journals_of partitions) p))
    ∙ ap (λ n. sum_to n (λ p. length (journal_of (journals_of partitions) p))) (sym count)
    ∙ sum_to-same (length partitions) (λ p. length (journal_of (journals_of partitions) p)) (λ p. length (slice_index_or partitions p d).journal) (λ p lt. ap (λ (j : List PartitionEvent). length j) (journal-at partitions p d lt))
    ∙ sym (sum_by-positions (λ (s : PartitionSeen). length s.journal) d partitions)

-- ---- the events of workers

-- so all of them count as many as are planned
pub shares-planned : (r : Run) (shares : List SharesSeen) (d : SharesSeen) → length shares ≡ r.limits.workers → AreWholeShares r shares → all_shares shares ≡ planned_count r
shares-planned r shares d count whole =
    sum_by-positions (λ (s : SharesSeen). sum s.events) d shares
    ∙ sum_to-same (length shares) (λ w. sum (slice_index_or shares w d).events) (λ w. sum_to r.limits.partitions (λ p. length (plan r w p))) one
    ∙ ap (λ n. sum_to n (λ w. sum_to r.limits.partitions (λ p. length (plan r w p)))) count
    ∙ sum_to-swap r.limits.workers r.limits.partitions (λ w p. length (plan r w p))
    ∙ sum_to-same r.limits.partitions (λ p. sum_to r.limits.workers (λ w. length (plan r w p))) (λ p. sum_by (λ w. length (plan r w p)) (range_with_len 0 r.limits.workers)) (λ p lt. sym (sum_to-range r.limits.workers (λ w. length (plan r w p))))
    ∙ sym (sum_to-range r.limits.partitions (λ p. sum_by (λ w. length (plan r w p)) (range_with_len 0 r.limits.workers)))
  where
    one : (w : ℕ) → w < length shares → sum (slice_index_or shares w d).events ≡ sum_to r.limits.partitions (λ p. length (plan r w p))
    one w lt =
        let mine = whole w d lt in
        sum-positions (slice_index_or shares w d).events
        ∙ ap (λ n. sum_to n (λ p. share_of (slice_index_or shares w d) p)) mine.0
        ∙ sum_to-same r.limits.partitions (λ p. share_of (slice_index_or shares w d) p) (λ p. length (plan r w p)) mine.1

-- ---- together

-- the journals hold the plans whole
pub whole-journals : (r : Run) (partitions : List PartitionSeen) (shares : List SharesSeen) (d : PartitionSeen) (e : SharesSeen)
    → length partitions ≡ r.limits.partitions → length shares ≡ r.limits.workers → AreClosed r partitions → all_events partitions ≡ all_shares shares → AreWholeShares r shares
    → AreWhole r (journals_of partitions)
whole-journals r partitions shares d e count workers closed same whole =
    whole-all r (journals_of partitions) (closed-within r partitions d count closed)
    (omega (arith, closed-count r partitions d count, same, shares-planned r shares e workers whole))
