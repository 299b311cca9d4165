-- Keys that stand once are as many as sorted.
use Rattle.std.proofs.Common.{◌≡◌, ◌⊎◌, inl, inr, suc, ◌+◌, ◌≤◌, List, [], ◌∷◌, length, refl, ap, subst, arith}
use Rattle.std.specs.Prelude.{⊤}
use Rattle.std.specs.List.{fold}
use Rattle.std.specs.declared.cmp.Ordering.{Ordering}
use Rattle.std.specs.declared.cmp.Ordering.TheVariants.{Less, Equal, Greater}
use Rattle.std.specs.Ordering.{match_ordering}
use Rattle.pipe_columns.specs.Groups.{IsExactOn, put_key, sorted_keys}
use Rattle.pipe_columns.proofs.AscendingFacts.{AnyKey}
use Rattle.pipe_columns.proofs.ElementFacts.{Has}

-- each key stands once
abbrev pub Once : {K : Type 0} → List K → Type 0
Once [] = ⊤
Once (k ∷ ks) = (Has k ks → ⊥) × Once ks

module _ {K : Type 0} (order : K → K → Ordering) (o : IsExactOn AnyKey order) where
  -- a key that is new lengthens the sorted ones by one
  put-length : (k : K) (ks : List K) → (Has k ks → ⊥) → length (put_key order k ks) ≡ suc (length ks)
  put-length k [] new = refl
  put-length k (x ∷ xs) new = by (order k x) refl (put-length k xs (λ m. new (inr m))) where
    by : (r : Ordering) → order k x ≡ r → length (put_key order k xs) ≡ suc (length xs) → length (match_ordering r (k ∷ x ∷ xs) (x ∷ xs) (x ∷ put_key order k xs)) ≡ suc (suc (length xs))
    by Less e rest = refl
    by Equal e rest = absurd (new (inl (o.exact k x tt tt e)))
    by Greater e rest = ap suc rest

  -- what is there behind it is the key or was there before
  put-from : (q k : K) (ks : List K) → Has q (put_key order k ks) → (q ≡ k) ⊎ Has q ks
  put-from q k [] m = m
  put-from q k (x ∷ xs) m = by (order k x) m (put-from q k xs) where
    by : (r : Ordering) → Has q (match_ordering r (k ∷ x ∷ xs) (x ∷ xs) (x ∷ put_key order k xs)) → (Has q (put_key order k xs) → (q ≡ k) ⊎ Has q xs) → (q ≡ k) ⊎ Has q (x ∷ xs)
    by Less m next = m
    by Equal m next = inr m
    by Greater (inl e) next = inr (inl e)
    by Greater (inr m) next = behind (next m) where
      behind : (q ≡ k) ⊎ Has q xs → (q ≡ k) ⊎ Has q (x ∷ xs)
      behind (inl e) = inl e
      behind (inr n) = inr (inr n)

  -- keys that stand once and are all new
  fold-length : (done ks : List K) → Once ks → ((k : K) → Has k ks → Has k done → ⊥) → length (fold (λ sorted k. put_key order k sorted) done ks) ≡ length done + length ks
  fold-length done [] once new = omega arith
  fold-length done (k ∷ ks) once new =
      let here : length (put_key order k done) ≡ suc (length done) = put-length k done (new k (inl refl)) in
      let rest = fold-length (put_key order k done) ks once.1 (λ x m n. still x m (put-from x k done n)) in
      omega (arith, here, rest)
    where
      still : (x : K) → Has x ks → (x ≡ k) ⊎ Has x done → ⊥
      still x m (inl e) = once.0 (subst (λ (y : K). Has y ks) e m)
      still x m (inr n) = new x (inr m) n

  -- keys that stand once are as many as sorted
  pub sorted-length : (ks : List K) → Once ks → length (sorted_keys order ks) ≡ length ks
  sorted-length ks once = let all = fold-length [] ks once (λ k m n. n) in omega (arith, all)

-- sorted keys are no more than they were
module _ {K : Type 0} (order : K → K → Ordering) where
  put-few : (k : K) (ks : List K) → length (put_key order k ks) ≤ suc (length ks)
  put-few k [] = omega arith
  put-few k (x ∷ xs) = by (order k x) (put-few k xs) where
    by : (r : Ordering) → length (put_key order k xs) ≤ suc (length xs) → length (match_ordering r (k ∷ x ∷ xs) (x ∷ xs) (x ∷ put_key order k xs)) ≤ suc (suc (length xs))
    by Less few = omega arith
    by Equal few = omega arith
    by Greater few = omega (arith, few)

  fold-few : (done ks : List K) → length (fold (λ sorted k. put_key order k sorted) done ks) ≤ length done + length ks
  fold-few done [] = omega arith
  fold-few done (k ∷ ks) = let rest = fold-few (put_key order k done) ks in let here = put-few k done in omega (arith, rest, here)

  pub sorted-few : (ks : List K) → length (sorted_keys order ks) ≤ length ks
  sorted-few ks = let all = fold-few [] ks in omega (arith, all)
