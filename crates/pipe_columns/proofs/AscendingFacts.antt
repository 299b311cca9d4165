-- Keys that ascend: a list of distinct keys in an order is the same list whatever way it was made.
use Rattle.std.proofs.Common.{◌≡◌, ◌∙◌, inl, inr, List, [], ◌∷◌, refl, sym, ap, subst}
use Rattle.std.specs.Prelude.{⊤, fold}
use Rattle.std.specs.List.{All, AllByRecursion}
use Rattle.std.specs.List.Sorted.{IsPermutation}
use Rattle.std.specs.declared.cmp.Ordering.{Ordering}
use Rattle.std.specs.declared.cmp.Ordering.TheVariants.{Less, Equal, Greater}
use Rattle.std.specs.Ordering.{match_ordering, ordering_reverse}
use Rattle.std.specs.Cmp.{IsTotalOrder}
use Rattle.std.proofs.lemmas.List.Elements.{All-cons, All-head, All-nil, All-tail, All-weaker}
use Rattle.std.proofs.lemmas.List.Sorted.{IsPermutation-sym}
use Rattle.pipe_columns.specs.Groups.{AreSortedKeys, IsAscending, IsExactOn, IsOrderOn, put_key, sorted_keys}
use Rattle.pipe_columns.proofs.ElementFacts.{all_at, all_has, Has, has-same, moved-has, same-has, same_elements}

-- ---- what holds of sorted keys

module _ {K : Type 0} (P : K → Type 0) (order : K → K → Ordering) where
  -- what holds of keys and of one more holds of all
  put-holds : (k : K) (ks : List K) → P k → All P ks → All P (put_key order k ks)
  put-holds k [] p h = All-cons P k [] p h
  put-holds k (x ∷ xs) p h = put_at (order k x) (put-holds k xs p (All-tail P x xs h)) where
    put_at : (o : Ordering) → All P (put_key order k xs) → All P (match_ordering o (k ∷ x ∷ xs) (x ∷ xs) (x ∷ put_key order k xs))
    put_at Less rest = All-cons P k (x ∷ xs) p h
    put_at Equal rest = h
    put_at Greater rest = All-cons P x (put_key order k xs) (All-head P x xs h) rest

  -- so it does of keys that are put one by one
  fold-holds : (done ks : List K) → All P done → All P ks → All P (fold (λ sorted k. put_key order k sorted) done ks)
  fold-holds done [] d h = d
  fold-holds done (k ∷ ks) d h = fold-holds (put_key order k done) ks (put-holds k done (All-head P k ks h) d) (All-tail P k ks h)

  -- what holds of keys holds of them sorted
  pub sorted-holds : (ks : List K) → All P ks → All P (sorted_keys order ks)
  sorted-holds ks h = fold-holds [] ks (All-nil P) h

-- each sorted key is one of those that were sorted
pub sorted-from : {K : Type 0} (order : K → K → Ordering) (k : K) (ks : List K) → Has k (sorted_keys order ks) → Has k ks
sorted-from {K} order k ks m = let P : K → Type 0 = λ x. Has x ks in all_at P (sorted_keys order ks) k (sorted-holds P order ks (all_has ks)) m

module _ {K : Type 0} (P : K → Type 0) (R Q : K → K → Ordering) (same : (a b : K) → P a → P b → R a b ≡ Q a b) where
  -- orders that agree on a key and on keys put it in the same place
  put-same : (k : K) (ks : List K) → P k → All P ks → put_key R k ks ≡ put_key Q k ks
  put-same k [] p h = refl
  put-same k (x ∷ xs) p h = rw (same k x p (All-head P x xs h), put-same k xs p (All-tail P x xs h)) refl

  -- they sort keys alike behind keys that are sorted
  fold-same : (done ks : List K) → All P done → All P ks → fold (λ sorted k. put_key R k sorted) done ks ≡ fold (λ sorted k. put_key Q k sorted) done ks
  fold-same done [] d h = refl
  fold-same done (k ∷ ks) d h =
      ap (λ (t : List K). fold (λ sorted k. put_key R k sorted) t ks) (put-same k done (All-head P k ks h) d)
      ∙ fold-same (put_key Q k done) ks (put-holds P Q k done (All-head P k ks h) d) (All-tail P k ks h)

  -- orders that agree on the keys at hand sort them alike
  pub sorted-same : (ks : List K) → All P ks → sorted_keys R ks ≡ sorted_keys Q ks
  sorted-same ks h = fold-same [] ks (All-nil P) h

-- ---- ascending keys

module _ {K : Type 0} (order : K → K → Ordering) where
  -- x is below each key
  abbrev pub Below : K → List K → Type 0
  Below x ys = AllByRecursion (λ y. order x y ≡ Less) ys

  -- what is below keys is below each of them
  below-has : (x y : K) (ys : List K) → Below x ys → Has y ys → order x y ≡ Less
  below-has x y [] b m = absurd m
  below-has x y (z ∷ zs) b (inl e) = rw e b.0
  below-has x y (z ∷ zs) b (inr m) = below-has x y zs b.1 m

  -- what is below keys and one more is below all
  below-put : (x k : K) (ys : List K) → order x k ≡ Less → Below x ys → Below x (put_key order k ys)
  below-put x k [] e b = (e, tt)
  below-put x k (y ∷ ys) e b = put_at (order k y) (below-put x k ys e b.1) where
    put_at : (r : Ordering) → Below x (put_key order k ys) → Below x (match_ordering r (k ∷ y ∷ ys) (y ∷ ys) (y ∷ put_key order k ys))
    put_at Less rest = (e, b)
    put_at Equal rest = b
    put_at Greater rest = (b.0, rest)

  -- keys stay, however many are put among them
  put-keeps : (q k : K) (ks : List K) → Has q ks → Has q (put_key order k ks)
  put-keeps q k [] m = absurd m
  put-keeps q k (x ∷ xs) m = put_at (order k x) m (put-keeps q k xs) where
    put_at : (r : Ordering) → Has q (x ∷ xs) → (Has q xs → Has q (put_key order k xs)) → Has q (match_ordering r (k ∷ x ∷ xs) (x ∷ xs) (x ∷ put_key order k xs))
    put_at Less m next = inr m
    put_at Equal m next = m
    put_at Greater (inl e) next = inl e
    put_at Greater (inr n) next = inr (next n)

  -- keys that are there stay
  fold-keeps : (q : K) (done ks : List K) → Has q done → Has q (fold (λ sorted k. put_key order k sorted) done ks)
  fold-keeps q done [] m = m
  fold-keeps q done (k ∷ ks) m = fold-keeps q (put_key order k done) ks (put-keeps q k done m)

-- by an order of the keys that have P
module _ {K : Type 0} (P : K → Type 0) (order : K → K → Ordering) (o : IsOrderOn P order) where
  -- what is below a key is below all that it is below
  pub below_trans_on : (k x : K) (ys : List K) → P k → P x → All P ys → order k x ≡ Less → Below order x ys → Below order k ys
  below_trans_on k x [] p q h e b = tt
  below_trans_on k x (y ∷ ys) p q h e b =
      (o.through k x y p q (All-head P y ys h) e b.0, below_trans_on k x ys p q (All-tail P y ys h) e b.1)

  -- a greater key has the other one below it
  greater-back : (k y : K) → P k → P y → order k y ≡ Greater → order y k ≡ Less
  greater-back k y p q e = o.turns y k q p ∙ ap ordering_reverse e

  -- a key put among ascending ones leaves them ascending
  pub put-ascending_on : (k : K) (ks : List K) → P k → All P ks → IsAscending order ks → IsAscending order (put_key order k ks)
  put-ascending_on k [] p h a = (tt, tt)
  put-ascending_on k (y ∷ ys) p h a = put_at (order k y) refl (put-ascending_on k ys p (All-tail P y ys h) a.1) where
    put_at : (r : Ordering) → order k y ≡ r → IsAscending order (put_key order k ys) → IsAscending order (match_ordering r (k ∷ y ∷ ys) (y ∷ ys) (y ∷ put_key order k ys))
    put_at Less e rest = ((e, below_trans_on k y ys p (All-head P y ys h) (All-tail P y ys h) e a.0), a)
    put_at Equal e rest = a
    put_at Greater e rest = (below-put order y k ys (greater-back k y p (All-head P y ys h) e) a.0, rest)

  -- keys put one by one among ascending ones leave them ascending
  fold-ascending : (done ks : List K) → All P done → All P ks → IsAscending order done → IsAscending order (fold (λ sorted k. put_key order k sorted) done ks)
  fold-ascending done [] d h a = a
  fold-ascending done (k ∷ ks) d h a =
      let p : P k = All-head P k ks h in
      fold-ascending (put_key order k done) ks (put-holds P order k done p d) (All-tail P k ks h) (put-ascending_on k done p d a)

  -- sorted keys ascend
  pub sorted-ascending_on : (ks : List K) → All P ks → IsAscending order (sorted_keys order ks)
  sorted-ascending_on ks h = fold-ascending [] ks (All-nil P) h tt

  -- no key is below itself
  below-itself : (x : K) → P x → order x x ≡ Less → ⊥
  below-itself x p e = let turned : order x x ≡ ordering_reverse (order x x) = o.turns x x p p in never (order x x) turned e where
    never : (r : Ordering) → r ≡ ordering_reverse r → r ≡ Less → ⊥
    never Less t e = cc
    never Equal t e = cc
    never Greater t e = cc

  -- ascending keys with the same elements begin alike
  same_first : (x y : K) (xs ys : List K) → P x → P y → Below order x xs → Below order y ys → Has x (y ∷ ys) → Has y (x ∷ xs) → x ≡ y
  same_first x y xs ys p q a b (inl e) m = e
  same_first x y xs ys p q a b (inr m) (inl e) = sym e
  same_first x y xs ys p q a b (inr m) (inr n) =
      absurd (below-itself x p (o.through x y x p q p (below-has order x y xs a n) (below-has order y x ys b m)))

  -- a key behind the first stands behind the first of the other list
  rest-has : (x y k : K) (xs ys : List K) → P x → Below order x xs → x ≡ y → Has k xs → Has k (y ∷ ys) → Has k ys
  rest-has x y k xs ys p a e m (inl f) = absurd (below-itself x p (subst (λ (z : K). order x z ≡ Less) (f ∙ sym e) (below-has order x k xs a m)))
  rest-has x y k xs ys p a e m (inr n) = n

  -- ascending keys with the same elements are the same
  pub ascending_unique_on : (xs ys : List K) → All P xs → All P ys → IsAscending order xs → IsAscending order ys
      → ((k : K) → Has k xs → Has k ys) → ((k : K) → Has k ys → Has k xs) → xs ≡ ys
  ascending_unique_on [] [] p q a b f g = refl
  ascending_unique_on [] (y ∷ ys) p q a b f g = absurd (g y (inl refl))
  ascending_unique_on (x ∷ xs) [] p q a b f g = absurd (f x (inl refl))
  ascending_unique_on (x ∷ xs) (y ∷ ys) p q a b f g =
      let px : P x = All-head P x xs p in
      let py : P y = All-head P y ys q in
      let e : x ≡ y = same_first x y xs ys px py a.0 b.0 (f x (inl refl)) (g y (inl refl)) in
      let rest : xs ≡ ys = ascending_unique_on xs ys (All-tail P x xs p) (All-tail P y ys q) a.1 b.1
      (λ k m. rest-has x y k xs ys px a.0 e m (f k (inr m))) (λ k m. rest-has y x k ys xs py b.0 (sym e) m (g k (inr m))) in
      ap (λ (z : K). z ∷ xs) e ∙ ap (λ (t : List K). y ∷ t) rest

-- by one that also sets different keys apart
module _ {K : Type 0} (P : K → Type 0) (order : K → K → Ordering) (o : IsExactOn P order) where
  -- a key that is put is there
  put-has : (k : K) (ks : List K) → P k → All P ks → Has k (put_key order k ks)
  put-has k [] p h = inl refl
  put-has k (x ∷ xs) p h = put_at (order k x) refl (put-has k xs p (All-tail P x xs h)) where
    put_at : (r : Ordering) → order k x ≡ r → Has k (put_key order k xs) → Has k (match_ordering r (k ∷ x ∷ xs) (x ∷ xs) (x ∷ put_key order k xs))
    put_at Less e rest = inl refl
    put_at Equal e rest = inl (o.exact k x p (All-head P x xs h) e)
    put_at Greater e rest = inr rest

  -- each of the keys that are put one by one is there
  fold-has : (q : K) (done ks : List K) → All P done → All P ks → Has q ks → Has q (fold (λ sorted k. put_key order k sorted) done ks)
  fold-has q done [] d h m = absurd m
  fold-has q done (k ∷ ks) d h (inl e) = fold-keeps order q (put_key order k done) ks (rw e (put-has k done (All-head P k ks h) d))
  fold-has q done (k ∷ ks) d h (inr m) = fold-has q (put_key order k done) ks (put-holds P order k done (All-head P k ks h) d) (All-tail P k ks h) m

  -- each key is among them sorted
  pub sorted-has_on : (k : K) (ks : List K) → All P ks → Has k ks → Has k (sorted_keys order ks)
  sorted-has_on k ks h m = fold-has k [] ks (All-nil P) h m

  -- keys in their order ascend, and are the keys
  pub sorted_are : (keys : List K) → All P keys → AreSortedKeys order keys (sorted_keys order keys)
  sorted_are keys h = record {
    ascending = sorted-ascending_on P order o.total keys h;
    same = same_elements (sorted_keys order keys) keys (λ k m. sorted-from order k keys m) (λ k m. sorted-has_on k keys h m);
  }

  -- what ascends, and is the keys, is the keys in their order
  pub sorted_sole : (keys xs : List K) → All P keys → AreSortedKeys order keys xs → xs ≡ sorted_keys order keys
  sorted_sole keys xs h s =
      let own : All P xs = All-weaker (λ (x : K). Has x xs) P (λ x m. all_at P keys x h (same-has xs keys s.same x m)) xs (all_has xs) in
      ascending_unique_on P order o.total xs (sorted_keys order keys) own (sorted-holds P order keys h) s.ascending (sorted-ascending_on P order o.total keys h)
      (λ k m. sorted-has_on k keys h (same-has xs keys s.same k m)) (λ k m. has-same xs keys s.same k (sorted-from order k keys m))

-- keys sorted by one order, and moved so that they ascend by another, are the keys sorted by the other
pub sorted_anew_on : {K : Type 0} (P : K → Type 0) (R Q : K → K → Ordering) → IsExactOn P R → IsExactOn P Q
    → (keys xs : List K) → All P keys → IsPermutation (sorted_keys R keys) xs → IsAscending Q xs → xs ≡ sorted_keys Q keys
sorted_anew_on P R Q o p keys xs h moved a = sorted_sole P Q p keys xs h (record {
  ascending = a;
  same = same_elements xs keys
      (λ k m. sorted-from R k keys (moved-has xs (sorted_keys R keys) (IsPermutation-sym (sorted_keys R keys) xs moved) k m))
      (λ k m. moved-has (sorted_keys R keys) xs moved k (sorted-has_on P R o k keys h m));
})

-- ---- orders of all keys

-- what holds of every key
abbrev pub AnyKey : {K : Type 0} → K → Type 0
AnyKey k = ⊤

-- all keys have it
pub any_keys : {K : Type 0} (ks : List K) → All AnyKey ks
any_keys ks = λ i d lt. tt

module _ {K : Type 0} (order : K → K → Ordering) where
  -- an order of all keys is one of any
  pub total_on : IsTotalOrder order → IsOrderOn AnyKey order
  total_on o = record { turns = λ x y p q. o.antisymm x y; through = λ x y z p q r. o.trans x y z }

  -- so is one in which only a key itself ties with it
  pub exact_on : IsTotalOrder order → ((x y : K) → order x y ≡ Equal → x ≡ y) → IsExactOn AnyKey order
  exact_on o exact = record { total = total_on o; exact = λ x y p q. exact x y }

  -- the three facts from above by an order of all keys
  pub below_trans : IsTotalOrder order → (k x : K) (ys : List K) → order k x ≡ Less → Below order x ys → Below order k ys
  below_trans o k x ys e b = below_trans_on AnyKey order (total_on o) k x ys tt tt (any_keys ys) e b

  pub put-ascending : IsTotalOrder order → (k : K) (ks : List K) → IsAscending order ks → IsAscending order (put_key order k ks)
  put-ascending o k ks a = put-ascending_on AnyKey order (total_on o) k ks tt (any_keys ks) a

  pub sorted-ascending : IsTotalOrder order → (ks : List K) → IsAscending order (sorted_keys order ks)
  sorted-ascending o ks = sorted-ascending_on AnyKey order (total_on o) ks (any_keys ks)

-- the same by two orders of all keys
pub sorted_anew : {K : Type 0} (R Q : K → K → Ordering) → IsTotalOrder R → ((x y : K) → R x y ≡ Equal → x ≡ y) → IsTotalOrder Q → ((x y : K) → Q x y ≡ Equal → x ≡ y)
    → (keys xs : List K) → IsPermutation (sorted_keys R keys) xs → IsAscending Q xs → xs ≡ sorted_keys Q keys
sorted_anew R Q o exact p alike keys xs moved a = sorted_anew_on AnyKey R Q (exact_on R o exact) (exact_on Q p alike) keys xs (any_keys keys) moved a
