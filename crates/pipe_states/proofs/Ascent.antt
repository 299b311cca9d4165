-- Whether the keys of state rows ascend, as those of neighbours tell.
use Rattle.std.proofs.Common.{◌≡◌, ◌∙◌, ◌+◌, ◌-◌, ◌<◌, ◌≤◌, ℕ, zero, suc, false, true, List, [], ◌∷◌, map, length, refl, sym, ap, subst, arith, ⊎_elim}
use Rattle.std.specs.List.{slice_index_or}
use Rattle.std.specs.Ordering.{is_lt}
use Rattle.std.specs.declared.cmp.Ordering.{Ordering}
use Rattle.std.specs.declared.cmp.Ordering.TheVariants.{Less, Equal, Greater}
use Rattle.std.proofs.lemmas.Bool.{cases_eq, false≢true}
use Rattle.std.proofs.lemmas.List.{get_or_default}
use Rattle.pipe_columns.specs.declared.any_value.AnyValue.{AnyValue}
use Rattle.pipe_columns.specs.Groups.{IsAscending}
use Rattle.pipe_columns.proofs.AscendingFacts.{Below, below_trans}
use Rattle.pipe_columns.proofs.ValueOrder.{tuples_total}
use Rattle.pipe_model.specs.Answer.{tuple_cmp}
use Rattle.pipe_states.specs.declared.state_row.StateRow.{StateRow}

-- a key is below another
abbrev pub IsBelow : StateRow → StateRow → Type 0
IsBelow r s = tuple_cmp r.key s.key ≡ Less

-- each key before that of row n is below that behind it
abbrev pub NeighboursAscend : List StateRow → ℕ → Type 0
NeighboursAscend rows n = (k : ℕ) (d : StateRow) → k + 1 < n → IsBelow (slice_index_or rows k d) (slice_index_or rows (k + 1) d)

-- a key below the first of those that ascend is below all of them
below_all : (k x : List AnyValue) (ys : List (List AnyValue)) → tuple_cmp k x ≡ Less → IsAscending tuple_cmp (x ∷ ys) → Below tuple_cmp k (x ∷ ys)
below_all k x ys e a = (e, below_trans tuple_cmp tuples_total k x ys e a.0)

-- keys of which each is below the next ascend
pub ascending : (rows : List StateRow) (n : ℕ) → length rows ≤ n → NeighboursAscend rows n → IsAscending tuple_cmp (map (λ r. r.key) rows)
ascending [] n le h = tt
ascending (r ∷ []) n le h = (tt, tt)
ascending (r ∷ s ∷ rows) n le h =
    let rest = ascending (s ∷ rows) (n - 1) (omega (arith, le)) (λ k d lt.
    subst (λ m. IsBelow (slice_index_or (s ∷ rows) k d) (slice_index_or (r ∷ s ∷ rows) m d)) {x = suc k + 1} {y = suc (k + 1)} (omega arith) (h (suc k) d (omega (arith, le, lt)))) in
    (below_all r.key s.key (map (λ r. r.key) rows) (h 0 r (omega (arith, le))) rest, rest)

-- of keys that ascend each is below the next
pub next_below : (rows : List StateRow) (k : ℕ) (d : StateRow) → k + 1 < length rows → IsAscending tuple_cmp (map (λ r. r.key) rows)
    → IsBelow (slice_index_or rows k d) (slice_index_or rows (k + 1) d)
next_below [] k d lt a = absurd (omega (arith, lt))
next_below (r ∷ []) k d lt a = absurd (omega (arith, lt))
next_below (r ∷ s ∷ rows) zero d lt a = a.0.0
next_below (r ∷ s ∷ rows) (suc k) d lt a =
    subst (λ m. IsBelow (slice_index_or (s ∷ rows) k d) (slice_index_or (r ∷ s ∷ rows) m d)) {x = suc (k + 1)} {y = suc k + 1} (omega arith)
    (next_below (s ∷ rows) k d (omega (arith, lt)) a.1)

-- an order that is tested is the one below
pub tested : (o : Ordering) → is_lt o ≡ true → o ≡ Less
tested Less e = refl
tested Equal e = absurd (false≢true e)
tested Greater e = absurd (false≢true e)

-- a row and that behind it
module _ (rows : List StateRow) (i : ℕ) (r s : StateRow) (low : 1 ≤ i) (high : i < length rows) (first : r ≡ slice_index_or rows (i - 1) r) (second : s ≡ slice_index_or rows i s) where
  at_both : (k : ℕ) (d : StateRow) → k + 1 ≡ i → (slice_index_or rows k d ≡ r) × (slice_index_or rows (k + 1) d ≡ s)
  at_both k d is = (
    ap (λ n. slice_index_or rows n d) {x = k} {y = i - 1} (omega (arith, is)) ∙ get_or_default rows (i - 1) d r (omega (arith, low, high)) ∙ sym first,
    ap (λ n. slice_index_or rows n d) is ∙ get_or_default rows i d s high ∙ sym second,
  )

  -- where the first isn't below the second, they don't ascend
  pub not_below : (o : Ordering) → o ≡ tuple_cmp r.key s.key → is_lt o ≡ false → IsAscending tuple_cmp (map (λ r. r.key) rows) → ⊥
  not_below o is test a =
      let n : ℕ = i - 1 in
      let one : n + 1 ≡ i = omega (arith, low) in
      let at = at_both n r one in
      let below : tuple_cmp r.key s.key ≡ Less = (λ j. tuple_cmp (sym at.0 j).key (sym at.1 j).key) ∙ next_below rows n r (omega (arith, one, high)) a in
      false≢true (sym test ∙ ap is_lt (is ∙ below))

  -- where it is, one more ascends
  pub one_more : (o : Ordering) → o ≡ tuple_cmp r.key s.key → is_lt o ≡ true → NeighboursAscend rows i → NeighboursAscend rows (i + 1)
  one_more o is test before k d lt = ⊎_elim
      (λ e. let at = at_both k d e in (λ j. tuple_cmp (at.0 j).key (at.1 j).key) ∙ sym is ∙ tested o test)
      (λ n. before k d (omega (arith, lt, n)))
      (cases_eq (k + 1) i)
