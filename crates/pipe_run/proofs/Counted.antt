-- What the counts of faults of partitions say of their stores.
use Rattle.std.proofs.Common.{◌≡◌, ◌∙◌, ◌<◌, ℕ, List, [], ◌∷◌, length, map, refl, sym, ap, subst, arith, ⊎_elim}
use Rattle.std.specs.Prelude.{slice_index_or}
use Rattle.std.proofs.lemmas.Bool.{cases_lt}
use Rattle.std.proofs.lemmas.List.{get_or-map, length-map}
use Rattle.std.proofs.Math.ListN.{get_or-eq_default}
use Rattle.pipe_columns.specs.Causes.{Rose}
use Rattle.pipe_plan.specs.Run.{StoreSeen}
use Rattle.pipe_global.specs.Partition.{no_store, PartitionSeen}
use Rattle.pipe_run.specs.Failing.{IsFirstFailed, NoneFailed}
use Rattle.pipe_asked.specs.Left.{CountOn, RoseFrom}

-- the stores of partitions
abbrev pub stores_of : List PartitionSeen → List StoreSeen
stores_of closed = map (λ c. c.store) closed

-- stores that are the same didn't fail
pub calm-same : (before after : List StoreSeen) → after ≡ before → NoneFailed before after
calm-same before after is = record {
  count = ap (λ (l : List StoreSeen). length l) is;
  each = λ p lt. ap (λ (l : List StoreSeen). (slice_index_or l p no_store).faults) is;
}

-- nor did they in two calls of which none failed
pub calm-twice : (a b c : List StoreSeen) → NoneFailed a b → NoneFailed b c → NoneFailed a c
calm-twice a b c first second = record {
  count = second.count ∙ first.count;
  each = λ p lt. second.each p (omega (arith, lt, first.count)) ∙ first.each p lt;
}

-- a count that is as it was, also past the last store
calm-at : (a b : List StoreSeen) (p : ℕ) → NoneFailed a b → (slice_index_or b p no_store).faults ≡ (slice_index_or a p no_store).faults
calm-at a b p calm = ⊎_elim
    (λ within. calm.each p within)
    (λ beyond.
    ap (λ (x : StoreSeen). x.faults) (get_or-eq_default b no_store (omega (arith, beyond, calm.count)))
    ∙ sym (ap (λ (x : StoreSeen). x.faults) (get_or-eq_default a no_store beyond)))
    (cases_lt p (length a))

-- the first that failed after a call in which none did is the first in both
pub first-later : (a b c : List StoreSeen) (p : ℕ) → NoneFailed a b → IsFirstFailed b c p → IsFirstFailed a c p
first-later a b c p calm first = record {
  exists = first.exists;
  rose = subst (λ n. Rose n (slice_index_or c p no_store).faults) (calm-at a b p calm) first.rose;
  least = λ k less. first.least k less ∙ calm-at a b k calm;
}

module _ (before after : List PartitionSeen) (long : length after ≡ length before) where
  -- the count of one
  count-before : (p : ℕ) (d : PartitionSeen) → p < length before → (slice_index_or (stores_of before) p no_store).faults ≡ (slice_index_or before p d).store.faults
  count-before p d lt = ap (λ (x : StoreSeen). x.faults) (get_or-map (λ (c : PartitionSeen). c.store) before p d no_store lt)

  count-after : (p : ℕ) (d : PartitionSeen) → p < length before → (slice_index_or (stores_of after) p no_store).faults ≡ (slice_index_or after p d).store.faults
  count-after p d lt = ap (λ (x : StoreSeen). x.faults) (get_or-map (λ (c : PartitionSeen). c.store) after p d no_store (omega (arith, lt, long)))

  -- where each is as it was, no store failed
  pub calm-stores : CountOn before after → NoneFailed (stores_of before) (stores_of after)
  calm-stores on = record {
    count = length-map after (λ (c : PartitionSeen). c.store) ∙ long ∙ sym (length-map before (λ (c : PartitionSeen). c.store));
    each = by before refl;
  } where
    by : (ps : List PartitionSeen) → before ≡ ps → (p : ℕ) → p < length (stores_of before) → (slice_index_or (stores_of after) p no_store).faults ≡ (slice_index_or (stores_of before) p no_store).faults
    by [] e p lt = absurd (omega (arith, lt, length-map before (λ (c : PartitionSeen). c.store), ap (λ (l : List PartitionSeen). length l) e))
    by (d ∷ ps) e p lt =
        let here : p < length before = omega (arith, lt, length-map before (λ (c : PartitionSeen). c.store)) in
        count-after p d here ∙ on p d here ∙ sym (count-before p d here)

  -- and the first whose count rose is the first that failed
  pub first-stores : (p : ℕ) → RoseFrom before p after → IsFirstFailed (stores_of before) (stores_of after) p
  first-stores p rose = by before refl where
    by : (ps : List PartitionSeen) → before ≡ ps → IsFirstFailed (stores_of before) (stores_of after) p
    by [] e = absurd (omega (arith, rose.exists, ap (λ (l : List PartitionSeen). length l) e))
    by (d ∷ ps) e =
        let lt : p < length before = rose.exists in
        record {
          exists = omega (arith, lt, long, length-map after (λ (c : PartitionSeen). c.store));
          rose =
              subst (λ n. Rose n (slice_index_or (stores_of after) p no_store).faults) (sym (count-before p d lt))
              (subst (λ n. Rose (slice_index_or before p d).store.faults n) (sym (count-after p d lt)) (rose.rose d));
          least = λ k less.
              let here : k < length before = omega (arith, less, lt) in
              count-after k d here ∙ rose.least k d less ∙ sym (count-before k d here);
        }
