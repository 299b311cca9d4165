-- Partitions that are closed one after another, and stores that are taken so.
use Rattle.std.proofs.Common.{◌≡◌, ◌∙◌, ◌+◌, ◌<◌, ◌≤◌, ◌↔◌, ◌||◌, ℕ, zero, suc, Bool, true, false, List, [], ◌∷◌, ◌++◌, length, get_or, drop, refl, sym, ap, subst, arith, length-append, ⊎_elim}
use Rattle.std.proofs.lemmas.Bool.{cases_lt, false≢true}
use Rattle.std.proofs.lemmas.List.{get_or_append_left, get_or_push}
use Rattle.std.proofs.lemmas.List.Folds.{list_any-append}
use Rattle.std.proofs.lemmas.List.Sums.{sum_by_push}
use Rattle.pipe_plan.specs.Run.{Run, StoreSeen}
use Rattle.pipe_global.specs.Closed.{all_events, AreClosed, AreFailed, has_failed, IsClosed}
use Rattle.pipe_global.specs.Opening.{AreStoresFrom}
use Rattle.pipe_global.specs.Partition.{no_store, PartitionSeen, store_of}

-- one more is closed
pub closed-push : (r : Run) (xs : List PartitionSeen) (x : PartitionSeen) → AreClosed r xs → IsClosed r (length xs) x → AreClosed r (xs ++ x ∷ [])
closed-push r xs x are is p d lt = ⊎_elim
    (λ below. subst (IsClosed r p) (sym (get_or_append_left xs (x ∷ []) d p below)) (are p d below))
    (λ not_below.
    let at : length xs ≡ p = omega (arith, lt, not_below, length-append xs (x ∷ [])) in
    subst (IsClosed r p) (sym (get_or_push xs x d p at)) (subst (λ n. IsClosed r n x) at is))
    (cases_lt p (length xs))

-- and may have failed
pub failed-push : (xs : List PartitionSeen) (x : PartitionSeen) (n m : ℕ) → AreFailed xs n → (x.failed ≡ true) ↔ (n < m) → n ≤ m → AreFailed (xs ++ x ∷ []) m
failed-push xs x n m are is more =
    let both : has_failed (xs ++ x ∷ []) ≡ (has_failed xs || (x.failed || false)) = list_any-append (λ (s : PartitionSeen). s.failed) xs (x ∷ []) in
    by (has_failed xs) x.failed refl refl both
  where
    by : (a b : Bool) → has_failed xs ≡ a → x.failed ≡ b → has_failed (xs ++ x ∷ []) ≡ (has_failed xs || (x.failed || false)) → AreFailed (xs ++ x ∷ []) m
    by true b ea eb both = ((λ f. let some : 0 < n = are.0 ea in omega (arith, some, more)), (λ s. both ∙ ap (λ c. c || (x.failed || false)) ea))
    by false true ea eb both = ((λ f. let some : n < m = is.0 eb in omega (arith, some)), (λ s. both ∙ ap (λ c. c || (x.failed || false)) ea ∙ ap (λ c. c || false) eb))
    by false false ea eb both = (
      (λ f. absurd (false≢true (sym (both ∙ ap (λ c. c || (x.failed || false)) ea ∙ ap (λ c. c || false) eb) ∙ f))),
      (λ s. ⊎_elim (λ lt. absurd (false≢true (sym eb ∙ is.1 lt))) (λ ge. absurd (false≢true (sym ea ∙ are.1 (omega (arith, s, ge))))) (cases_lt n m)),
    )

-- its events are counted
pub events-push : (xs : List PartitionSeen) (x : PartitionSeen) → all_events (xs ++ x ∷ []) ≡ all_events xs + length x.journal
events-push xs x = sum_by_push (λ (s : PartitionSeen). length s.journal) xs x

-- ---- stores

drop-next : {A : Type 0} (xs ys : List A) (n : ℕ) (x d : A) → x ∷ ys ≡ drop n xs → (x ≡ get_or xs n d) × (ys ≡ drop (suc n) xs)
drop-next [] ys zero x d e = cc
drop-next [] ys (suc n) x d e = cc
drop-next (z ∷ zs) ys zero x d e = (let first : x ≡ z = cc in first, let rest : ys ≡ zs = cc in rest)
drop-next (z ∷ zs) ys (suc n) x d e = drop-next zs ys n x d e

-- the next store is that of the next partition, and the others follow
pub store-next : (r : Run) (n : ℕ) (x : StoreSeen) (stores all : List StoreSeen) → all ≡ x ∷ stores → AreStoresFrom r n all → (x ≡ store_of r n) × AreStoresFrom r (n + 1) stores
store-next r n x stores all is from =
    let next = drop-next r.stores stores n x no_store (sym is ∙ from) in
    (next.0, subst (λ m. stores ≡ drop m r.stores) {x = suc n} {y = n + 1} (omega arith) next.1)
