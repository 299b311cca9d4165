-- Whether a place stands twice, as the neighbours among sorted places tell.
use Rattle.std.proofs.Common.{◌≡◌, ◌∙◌, ◌+◌, ◌-◌, ◌<◌, ◌≤◌, ◌==◌, ◌&&◌, ℕ, zero, suc, Bool, true, false, List, length, refl, sym, ap, subst, arith, ⊎_elim}
use Rattle.std.specs.List.{IsDistinct, slice_index_or}
use Rattle.std.specs.List.Sorted.{IsPermutation, IsSorted}
use Rattle.std.specs.declared.cmp.Ordering.{Ordering}
use Rattle.std.specs.declared.cmp.Ordering.TheVariants.{Less, Equal, Greater}
use Rattle.std.specs.Ordering.{eq_by_cmp, is_eq, is_lt, nat_cmp, ordering_reverse, ordering_then}
use Rattle.std.specs.Cmp.{IsEquivalence, unsigned_ties}
use Rattle.std.proofs.lemmas.Bool.{cases_eq, false≢true}
use Rattle.std.proofs.lemmas.List.{get_or_default}
use Rattle.std.proofs.lemmas.List.Sorted.{IsPermutation-sym}
use Rattle.std.proofs.lemmas.Map.Keys.{apart_from_distinct, IsDistinct-from_apart, IsDistinct-IsPermutation}
use Rattle.pipe_columns.specs.declared.place.Place.{Place}
use Rattle.pipe_columns.specs.Place.{place_cmp}
use Rattle.pipe_model.proofs.PlaceFacts.{place_total}

-- whether two places are one
abbrev pub same_place : Place → Place → Bool
same_place p q = eq_by_cmp place_cmp p q

-- no place before n is that behind it
abbrev pub NeighboursDiffer : List Place → ℕ → Type 0
NeighboursDiffer ps n = (k : ℕ) (d : Place) → k + 1 < n → same_place (slice_index_or ps k d) (slice_index_or ps (k + 1) d) ≡ false

-- a place that is not behind another and not that is before it
before : (p q : Place) → is_lt (place_cmp q p) ≡ false → same_place p q ≡ false → place_cmp p q ≡ Less
before p q low apart = by (place_cmp p q) refl where
  by : (o : Ordering) → place_cmp p q ≡ o → place_cmp p q ≡ Less
  by Less e = e
  by Equal e = absurd (false≢true (sym apart ∙ ap is_eq e))
  by Greater e = absurd (false≢true (sym low ∙ ap is_lt (place_total.antisymm q p ∙ ap ordering_reverse e)))

-- sorted places whose neighbours differ rise
rise : (ps : List Place) → IsSorted place_cmp ps → (n : ℕ) → NeighboursDiffer ps n → length ps ≤ n → (i m : ℕ) (d : Place) → i + suc m < length ps → place_cmp (slice_index_or ps i d) (slice_index_or ps (i + suc m) d) ≡ Less
rise ps sorted n apart le i zero d lt =
    subst (λ k. place_cmp (slice_index_or ps i d) (slice_index_or ps k d) ≡ Less) {x = i + 1} {y = i + suc zero} (omega arith)
    (before (slice_index_or ps i d) (slice_index_or ps (i + 1) d) (sorted i d (omega arith) (omega (arith, lt))) (apart i d (omega (arith, lt, le))))
rise ps sorted n apart le i (suc m) d lt =
    let first = rise ps sorted n apart le i m d (omega (arith, lt)) in
    let next = before (slice_index_or ps (i + suc m) d) (slice_index_or ps (i + suc m + 1) d) (sorted (i + suc m) d (omega arith) (omega (arith, lt))) (apart (i + suc m) d (omega (arith, lt, le))) in
    subst (λ k. place_cmp (slice_index_or ps i d) (slice_index_or ps k d) ≡ Less) {x = i + suc m + 1} {y = i + suc (suc m)} (omega arith)
    (place_total.trans (slice_index_or ps i d) (slice_index_or ps (i + suc m) d) (slice_index_or ps (i + suc m + 1) d) first next)

same_place-equal : IsEquivalence same_place
same_place-equal = record {
  refl = λ p. ap is_eq (Rattle.std.specs.Cmp.tied_itself place_total p);
  symm = λ p q. by (place_cmp p q) (place_cmp q p) (place_total.antisymm p q);
  congr = λ p q r e. ap is_eq (place_total.congr p q r ((Rattle.std.specs.Cmp.Equal-is (place_cmp p q)).0 e));
} where
  by : (a b : Ordering) → a ≡ ordering_reverse b → is_eq a ≡ is_eq b
  by a Less e = ap is_eq e
  by a Equal e = ap is_eq e
  by a Greater e = ap is_eq e

-- so none stands twice
pub apart-all : (ps sorted : List Place) → IsPermutation ps sorted → IsSorted place_cmp sorted → (n : ℕ) → length sorted ≤ n → NeighboursDiffer sorted n → IsDistinct same_place ps
apart-all ps sorted moved is n le apart =
    IsDistinct-IsPermutation same_place same_place-equal.symm sorted ps (IsPermutation-sym ps sorted moved)
    (IsDistinct-from_apart same_place sorted (λ i j d less lt.
    subst (λ k. same_place (slice_index_or sorted i d) (slice_index_or sorted k d) ≡ false) {x = i + suc (j - suc i)} {y = j} (omega (arith, less))
    (ap is_eq (rise sorted is n apart le i (j - suc i) d (omega (arith, less, lt))))))

-- two places are one where their numbers are
then-eq : (o r : Ordering) → is_eq (ordering_then o r) ≡ (is_eq o && is_eq r)
then-eq Less r = refl
then-eq Equal r = refl
then-eq Greater r = refl

same-both : (p q : Place) → ((p.chunk == q.chunk) && (p.row == q.row)) ≡ same_place p q
same-both p q =
    let chunks = unsigned_ties p.chunk q.chunk in
    let rows = unsigned_ties p.row q.row in
    (λ i. chunks i && rows i) ∙ sym (then-eq (nat_cmp p.chunk q.chunk) (nat_cmp p.row q.row))

-- a place and that behind it, in a list
module _ (sorted : List Place) (i : ℕ) (p q : Place) (low : 1 ≤ i) (high : i < length sorted) (first : p ≡ slice_index_or sorted (i - 1) p) (second : q ≡ slice_index_or sorted i q) where
  compared : (k : ℕ) (d : Place) → k + 1 ≡ i → same_place (slice_index_or sorted k d) (slice_index_or sorted (k + 1) d) ≡ ((p.chunk == q.chunk) && (p.row == q.row))
  compared k d is =
      let here : slice_index_or sorted k d ≡ p = ap (λ n. slice_index_or sorted n d) {x = k} {y = i - 1} (omega (arith, is)) ∙ get_or_default sorted (i - 1) d p (omega (arith, low, high)) ∙ sym first in
      let there : slice_index_or sorted (k + 1) d ≡ q = ap (λ n. slice_index_or sorted n d) is ∙ get_or_default sorted i d q high ∙ sym second in
      (λ j. same_place (here j) (there j)) ∙ sym (same-both p q)

  -- where they are one, a place stands twice
  pub tie-found : (ps : List Place) → IsPermutation ps sorted → ((p.chunk == q.chunk) && (p.row == q.row)) ≡ true → IsDistinct same_place ps → ⊥
  tie-found ps moved tie distinct =
      let n : ℕ = i - 1 in
      let is : n + 1 ≡ i = omega (arith, low) in
      false≢true (sym (apart_from_distinct same_place sorted n (n + 1) p (IsDistinct-IsPermutation same_place same_place-equal.symm ps sorted moved distinct) (omega arith) (omega (arith, is, high))) ∙ compared n p is ∙ tie)

  -- where they differ, one more does
  pub neighbours-more : ((p.chunk == q.chunk) && (p.row == q.row)) ≡ false → NeighboursDiffer sorted i → NeighboursDiffer sorted (i + 1)
  neighbours-more differ before k d lt = ⊎_elim
      (λ is. compared k d is ∙ differ)
      (λ apart. before k d (omega (arith, lt, apart)))
      (cases_eq (k + 1) i)
