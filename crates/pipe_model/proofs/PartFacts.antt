-- Keys by a number and then by tuple are the keys of each number, joined.
use Rattle.std.proofs.Common.{◌≡◌, ◌∙◌, ℕ, zero, suc, ◌+◌, ◌<◌, ◌≤◌, ◌==◌, Bool, true, false, cond, List, [], ◌∷◌, ◌++◌, ◌⊎◌, inl, inr, eq-eqb, eqb-true, refl, sym, ap, arith}
use Rattle.std.specs.List.{All, AllByRecursion, filter, flat_map, range_with_len}
use Rattle.std.specs.declared.cmp.Ordering.{Ordering}
use Rattle.std.specs.declared.cmp.Ordering.TheVariants.{Less, Equal}
use Rattle.std.specs.Cmp.{Equal-is, IsTotalOrder, nat_cmp_is, nat_cmp_total, on_total, then_total, tied_itself}
use Rattle.std.specs.Ordering.{is_eq, nat_cmp, ordering_then}
use Rattle.std.proofs.lemmas.Bool.{eqb-false}
use Rattle.std.proofs.lemmas.List.Elements.{All-head, All-map, All-tail, filter_passes}
use Rattle.pipe_columns.specs.declared.any_value.AnyValue.{AnyValue}
use Rattle.pipe_columns.specs.declared.place.Place.{Place}
use Rattle.pipe_columns.specs.Groups.{IsAscending, sorted_keys}
use Rattle.pipe_columns.specs.Row.{Row}
use Rattle.pipe_columns.proofs.AscendingFacts.{any_keys, AnyKey, Below, exact_on, sorted-ascending, sorted-from, sorted-has_on, sorted-holds, sorted_sole}
use Rattle.pipe_columns.proofs.ElementFacts.{all_at, Has, same_elements}
use Rattle.pipe_columns.proofs.ValueOrder.{tuples_tie, tuples_total}
use Rattle.pipe_model.specs.Answer.{rows_at, tuple_cmp}
use Rattle.pipe_model.specs.Rows.{keys_of}
use Rattle.pipe_model.proofs.JoinFacts.{ascending-append, has-either, has-first, has-second}
use Rattle.pipe_model.proofs.PlaceFacts.{then_both}

-- ---- rows by a number of their keys

module _ (part : List AnyValue → ℕ) where
  -- the rows whose key has number p
  abbrev pub rows_of : ℕ → List Row → List Row
  rows_of p rs = filter (λ r. part r.key == p) rs

  -- they are all rows of such a key
  pub rows_of-at : (p : ℕ) (rs : List Row) (k : List AnyValue) → part k ≡ p → rows_at (rows_of p rs) k ≡ rows_at rs k
  rows_of-at p [] k e = refl
  rows_of-at p (r ∷ rs) k e = by (part r.key == p) (is_eq (tuple_cmp r.key k)) refl refl (rows_of-at p rs k e) where
    by : (b t : Bool) → (part r.key == p) ≡ b → is_eq (tuple_cmp r.key k) ≡ t → rows_at (rows_of p rs) k ≡ rows_at rs k → rows_at (cond b (r ∷ rows_of p rs) (rows_of p rs)) k ≡ rows_at (r ∷ rs) k
    by true true f g rest = rw g (ap (λ (entries : List (Place × List AnyValue)). (r.place, r.inputs) ∷ entries) rest)
    by true false f g rest = rw g rest
    by false false f g rest = rw g rest
    by false true f g rest =
        let same : r.key ≡ k = tuples_tie r.key k ((Equal-is (tuple_cmp r.key k)).0 g) in
        let there : (part r.key == p) ≡ true = eq-eqb (part r.key) p (ap part same ∙ e) in
        cc

  -- a key of theirs is one of the rows
  key-from : (p : ℕ) (rs : List Row) (k : List AnyValue) → Has k (keys_of (rows_of p rs)) → Has k (keys_of rs)
  key-from p [] k m = absurd m
  key-from p (r ∷ rs) k m = by (part r.key == p) m (key-from p rs k) where
    by : (b : Bool) → Has k (keys_of (cond b (r ∷ rows_of p rs) (rows_of p rs))) → (Has k (keys_of (rows_of p rs)) → Has k (keys_of rs)) → Has k (keys_of (r ∷ rs))
    by true (inl e) next = inl e
    by true (inr n) next = inr (next n)
    by false n next = inr (next n)

  -- and a key of the rows that has number p is one of theirs
  key-into : (p : ℕ) (rs : List Row) (k : List AnyValue) → part k ≡ p → Has k (keys_of rs) → Has k (keys_of (rows_of p rs))
  key-into p [] k e m = absurd m
  key-into p (r ∷ rs) k e m = by (part r.key == p) refl m (key-into p rs k e) where
    by : (b : Bool) → (part r.key == p) ≡ b → Has k (keys_of (r ∷ rs)) → (Has k (keys_of rs) → Has k (keys_of (rows_of p rs))) → Has k (keys_of (cond b (r ∷ rows_of p rs) (rows_of p rs)))
    by true f (inl s) next = inl s
    by true f (inr n) next = inr (next n)
    by false f (inl s) next = let there : (part r.key == p) ≡ true = eq-eqb (part r.key) p (ap part (sym s) ∙ e) in cc
    by false f (inr n) next = next n

  -- ---- their keys, sorted

  -- the keys that have number p, in order
  abbrev pub keys_at : List Row → ℕ → List (List AnyValue)
  keys_at rs p = sorted_keys tuple_cmp (keys_of (rows_of p rs))

  -- each key of the rows has this number
  pub keys_of-part : (p : ℕ) (rs : List Row) → All (λ k. part k ≡ p) (keys_of (rows_of p rs))
  keys_of-part p rs =
      All-map (λ k. part k ≡ p) (λ (r : Row). r.key) (rows_of p rs) (λ i d h. eqb-true (part _) p (filter_passes (λ (r : Row). part r.key == p) rs i d h))

  -- and so it has sorted
  pub keys_at-part : (rs : List Row) (p : ℕ) → All (λ k. part k ≡ p) (keys_at rs p)
  keys_at-part rs p = sorted-holds (λ k. part k ≡ p) tuple_cmp (keys_of (rows_of p rs)) (keys_of-part p rs)

  -- by number, then by tuple
  abbrev pub by_part : List AnyValue → List AnyValue → Ordering
  by_part a b = ordering_then (nat_cmp (part a) (part b)) (tuple_cmp a b)

  -- this order is total
  by_part-total : IsTotalOrder by_part
  by_part-total = then_total (on_total part nat_cmp_total) tuples_total

  -- keys that tie in it are the same
  by_part-tie : (a b : List AnyValue) → by_part a b ≡ Equal → a ≡ b
  by_part-tie a b e = tuples_tie a b (then_both (nat_cmp (part a) (part b)) (tuple_cmp a b) e).1

  -- keys of one number are by number as by tuple
  pub by_part-alike : (p : ℕ) (a b : List AnyValue) → part a ≡ p → part b ≡ p → by_part a b ≡ tuple_cmp a b
  by_part-alike p a b e f = (λ i. ordering_then (nat_cmp (e i) (f i)) (tuple_cmp a b)) ∙ ap (λ (r : Ordering). ordering_then r (tuple_cmp a b)) (tied_itself nat_cmp_total p)

  -- so a key is below others of its number by both orders
  below-alike : (p : ℕ) (k : List AnyValue) (ks : List (List AnyValue)) → part k ≡ p → All (λ x. part x ≡ p) ks → Below tuple_cmp k ks → Below by_part k ks
  below-alike p k [] e h b = tt
  below-alike p k (x ∷ xs) e h b =
      let f : part x ≡ p = All-head (λ y. part y ≡ p) x xs h in
      (by_part-alike p k x e f ∙ b.0, below-alike p k xs e (All-tail (λ y. part y ≡ p) x xs h) b.1)

  -- and keys of one number that ascend by tuple ascend by number
  ascending-alike : (p : ℕ) (ks : List (List AnyValue)) → All (λ x. part x ≡ p) ks → IsAscending tuple_cmp ks → IsAscending by_part ks
  ascending-alike p [] h a = tt
  ascending-alike p (x ∷ xs) h a =
      let rest = All-tail (λ y. part y ≡ p) x xs h in
      (below-alike p x xs (All-head (λ y. part y ≡ p) x xs h) rest a.0, ascending-alike p xs rest a.1)

  -- a key of a lower number is below keys of higher ones
  below-higher : (n : ℕ) (k : List AnyValue) (ks : List (List AnyValue)) → part k < n → AllByRecursion (λ x. n ≤ part x) ks → Below by_part k ks
  below-higher n k [] lt h = tt
  below-higher n k (x ∷ xs) lt h =
      let up = h.0 in
      let less : nat_cmp (part k) (part x) ≡ Less = sym (nat_cmp_is (part k) (part x) Less (omega arith)) in
      (ap (λ (r : Ordering). ordering_then r (tuple_cmp k x)) less, below-higher n k xs lt h.1)

  -- ---- joined

  -- the keys of the numbers from low on, so many
  abbrev pub keys_from : List Row → ℕ → ℕ → List (List AnyValue)
  keys_from rs low n = flat_map (keys_at rs) (range_with_len low n)

  -- two lists of numbers from low on are one, joined
  higher-append : (low : ℕ) (xs ys : List (List AnyValue)) → AllByRecursion (λ k. low ≤ part k) xs → AllByRecursion (λ k. low ≤ part k) ys → AllByRecursion (λ k. low ≤ part k) (xs ++ ys)
  higher-append low [] ys h j = j
  higher-append low (x ∷ xs) ys h j = (h.0, higher-append low xs ys h.1 j)

  -- keys of a number have one from each lower number on
  higher-of : (low p : ℕ) (ks : List (List AnyValue)) → low ≤ p → All (λ k. part k ≡ p) ks → AllByRecursion (λ k. low ≤ part k) ks
  higher-of low p [] lt h = tt
  higher-of low p (x ∷ xs) lt h = let e : part x ≡ p = All-head (λ y. part y ≡ p) x xs h in (omega arith, higher-of low p xs lt (All-tail (λ y. part y ≡ p) x xs h))

  -- keys of numbers from n on have numbers from each lower one on
  lower : (low n : ℕ) (ks : List (List AnyValue)) → low ≤ n → AllByRecursion (λ k. n ≤ part k) ks → AllByRecursion (λ k. low ≤ part k) ks
  lower low n [] le h = tt
  lower low n (x ∷ xs) le h = let up = h.0 in (omega arith, lower low n xs le h.1)

  -- all of them have at least that number
  from-higher : (rs : List Row) (low n : ℕ) → AllByRecursion (λ k. low ≤ part k) (keys_from rs low n)
  from-higher rs low zero = tt
  from-higher rs low (suc n) =
      higher-append low (keys_at rs low) (keys_from rs (low + 1) n) (higher-of low low (keys_at rs low) (omega arith) (keys_at-part rs low))
      (lower low (low + 1) (keys_from rs (low + 1) n) (omega arith) (from-higher rs (low + 1) n))

  -- they ascend by number, then by tuple
  from-ascends : (rs : List Row) (low n : ℕ) → IsAscending by_part (keys_from rs low n)
  from-ascends rs low zero = tt
  from-ascends rs low (suc n) =
      ascending-append by_part (keys_at rs low) (keys_from rs (low + 1) n)
      (ascending-alike low (keys_at rs low) (keys_at-part rs low) (sorted-ascending tuple_cmp tuples_total (keys_of (rows_of low rs))))
      (from-ascends rs (low + 1) n)
      (λ k m. let e : part k ≡ low = all_at (λ x. part x ≡ low) (keys_at rs low) k (keys_at-part rs low) m in below-higher (low + 1) k (keys_from rs (low + 1) n) (omega arith) (from-higher rs (low + 1) n))

  -- each is a key of the rows
  from-rows : (rs : List Row) (low n : ℕ) (k : List AnyValue) → Has k (keys_from rs low n) → Has k (keys_of rs)
  from-rows rs low zero k m = absurd m
  from-rows rs low (suc n) k m = by (has-either k (keys_at rs low) (keys_from rs (low + 1) n) m) (from-rows rs (low + 1) n k) where
    by : Has k (keys_at rs low) ⊎ Has k (keys_from rs (low + 1) n) → (Has k (keys_from rs (low + 1) n) → Has k (keys_of rs)) → Has k (keys_of rs)
    by (inl h) next = key-from low rs k (sorted-from tuple_cmp k (keys_of (rows_of low rs)) h)
    by (inr h) next = next h

  -- and each key of the rows that has one of the numbers is there
  from-has : (rs : List Row) (low n : ℕ) (k : List AnyValue) → Has k (keys_of rs) → low ≤ part k → part k < low + n → Has k (keys_from rs low n)
  from-has rs low zero k m le lt = absurd (omega arith)
  from-has rs low (suc n) k m le lt = by (part k == low) refl (from-has rs (low + 1) n k m) where
    by : (b : Bool) → (part k == low) ≡ b → (low + 1 ≤ part k → part k < low + 1 + n → Has k (keys_from rs (low + 1) n)) → Has k (keys_from rs low (suc n))
    by true e next =
        has-first k (keys_at rs low) (keys_from rs (low + 1) n)
        (sorted-has_on AnyKey tuple_cmp (exact_on tuple_cmp tuples_total tuples_tie) k (keys_of (rows_of low rs)) (any_keys (keys_of (rows_of low rs))) (key-into low rs k (eqb-true (part k) low e) m))
    by false e next = has-second k (keys_at rs low) (keys_from rs (low + 1) n) (let other = eqb-false (part k) low e in next (omega arith) (omega arith))

  -- keys by number and then by tuple are the keys of each number, joined
  pub sorted_by_part : (rs : List Row) (n : ℕ) → ((k : List AnyValue) → part k < n) → sorted_keys by_part (keys_of rs) ≡ keys_from rs 0 n
  sorted_by_part rs n few = sym (sorted_sole AnyKey by_part (exact_on by_part by_part-total by_part-tie) (keys_of rs) (keys_from rs 0 n) (any_keys (keys_of rs)) (record {
    ascending = from-ascends rs 0 n;
    same = same_elements (keys_from rs 0 n) (keys_of rs) (from-rows rs 0 n) (λ k m. let lt = few k in from-has rs 0 n k m (omega arith) (omega arith));
  }))
