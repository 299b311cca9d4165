-- The rows of a tuple, among those of the keys of which it is a part.
use Rattle.std.proofs.Common.{◌≡◌, ◌∙◌, ℕ, ◌+◌, Bool, true, false, cond, ◌&&◌, ◌||◌, List, [], ◌∷◌, ◌++◌, map, Some, append_assoc, inl, inr, refl, sym, ap, subst, arith}
use Rattle.std.specs.List.{count_by, filter, list_any}
use Rattle.std.specs.Cmp.{Equal-is, tied_itself}
use Rattle.std.specs.Ordering.{is_eq}
use Rattle.std.proofs.lemmas.List.Elements.{filter-append}
use Rattle.pipe_columns.specs.declared.any_value.AnyValue.{AnyValue}
use Rattle.pipe_columns.specs.declared.place.Place.{Place}
use Rattle.pipe_columns.specs.Groups.{IsAscending}
use Rattle.pipe_columns.specs.Place.{first_entry}
use Rattle.pipe_columns.specs.Row.{Row}
use Rattle.pipe_columns.proofs.AscendingFacts.{any_keys, AnyKey, Below, exact_on, sorted-ascending, sorted-from, sorted-has_on}
use Rattle.pipe_columns.proofs.ElementFacts.{Has}
use Rattle.pipe_columns.proofs.ValueOrder.{tuples_tie, tuples_total}
use Rattle.pipe_model.specs.Answer.{rows_at, tuple_cmp}
use Rattle.pipe_model.specs.Query.{QueryTree}
use Rattle.pipe_model.specs.Rows.{keys_of}
use Rattle.pipe_model.proofs.CountFacts.{count-append, count-cons}
use Rattle.pipe_model.proofs.KeyFacts.{has_entry}
use Rattle.pipe_model.proofs.RowFacts.{first_of_any, second_of_any}
use Rattle.pipe_states.specs.Parts.{Part, rows_of_parts, saved}
use Rattle.pipe_states.specs.Regrouped.{rows_of_states, rows_with}
use Rattle.pipe_states.specs.States.{state_row, state_rows, tuples_of}
use Rattle.pipe_states.specs.declared.state_row.StateRow.{StateRow}
use Rattle.pipe_states.proofs.SummaryFacts.{EachFor, each-append, entries_have, Entries, HasResults, row_of_entries}
use Rattle.pipe_states.proofs.ValueFacts.{joined}

-- ---- tests over lists

-- no element passes a test that none passes
count-none : {X : Type 0} (xs : List X) → count_by (λ x. false) xs ≡ 0
count-none [] = refl
count-none (x ∷ xs) = count-cons (λ y. false) x xs ∙ ap (λ (n : ℕ). 0 + n) (count-none xs)

-- tests that agree on a list count alike
count-same : {X : Type 0} (a b c : X → Bool) (xs : List X) → ((x : X) → Has x xs → a x ≡ b x) → count_by (λ x. a x && c x) xs ≡ count_by (λ x. b x && c x) xs
count-same a b c [] h = refl
count-same a b c (x ∷ xs) h =
    count-cons (λ y. a y && c y) x xs
    ∙ (λ i. cond (h x (inl refl) i && c x) 1 0 + count-same a b c xs (λ y m. h y (inr m)) i)
    ∙ sym (count-cons (λ y. b y && c y) x xs)

-- of two tests of which no element passes both, either counts as both
count-either : {X : Type 0} (a b c : X → Bool) (xs : List X) → ((x : X) → a x ≡ true → b x ≡ false)
    → count_by (λ x. a x && c x) xs + count_by (λ x. b x && c x) xs ≡ count_by (λ x. (a x || b x) && c x) xs
count-either a b c [] h = refl
count-either a b c (x ∷ xs) h =
    let first = count-cons (λ y. a y && c y) x xs in
    let second = count-cons (λ y. b y && c y) x xs in
    let both = count-cons (λ y. (a y || b y) && c y) x xs in
    let rest = count-either a b c xs h in
    let one = by (a x) (b x) (h x) in
    omega arith
  where
    by : (p r : Bool) → (p ≡ true → r ≡ false) → cond (p && c x) 1 0 + cond (r && c x) 1 0 ≡ cond ((p || r) && c x) 1 0
    by true true f = let e = f refl in cc
    by true false f = plus_zero (cond (c x) 1 0) where
      plus_zero : (n : ℕ) → n + 0 ≡ n
      plus_zero n = omega arith
    by false r f = zero_plus (cond (r && c x) 1 0) where
      zero_plus : (n : ℕ) → 0 + n ≡ n
      zero_plus n = omega arith

-- ---- keys

-- a key is among those that pass a test where it passes
any-has : (p : List AnyValue → Bool) (x : List AnyValue) (ks : List (List AnyValue)) → p x ≡ true → Has x ks → list_any (λ k. is_eq (tuple_cmp x k)) (filter p ks) ≡ true
any-has p x [] e m = absurd m
any-has p x (k ∷ ks) e m = by (p k) refl m (any-has p x ks e) where
  by : (b : Bool) → p k ≡ b → Has x (k ∷ ks) → (Has x ks → list_any (λ y. is_eq (tuple_cmp x y)) (filter p ks) ≡ true) → list_any (λ y. is_eq (tuple_cmp x y)) (cond b (k ∷ filter p ks) (filter p ks)) ≡ true
  by true f (inl s) next = first_of_any (is_eq (tuple_cmp x k)) (list_any (λ y. is_eq (tuple_cmp x y)) (filter p ks)) (ap (λ (y : List AnyValue). is_eq (tuple_cmp x y)) (sym s) ∙ ap is_eq (tied_itself tuples_total x))
  by true f (inr n) next = second_of_any (is_eq (tuple_cmp x k)) (list_any (λ y. is_eq (tuple_cmp x y)) (filter p ks)) (next n)
  by false f (inl s) next = let g : p x ≡ p k = ap p s in cc
  by false f (inr n) next = next n

-- and not where it doesn't
any-not : (p : List AnyValue → Bool) (x : List AnyValue) (ks : List (List AnyValue)) → p x ≡ false → list_any (λ k. is_eq (tuple_cmp x k)) (filter p ks) ≡ false
any-not p x [] e = refl
any-not p x (k ∷ ks) e = by (p k) refl (any-not p x ks e) where
  apart : (b : Bool) → is_eq (tuple_cmp x k) ≡ b → p k ≡ true → b ≡ false
  apart true f g = let same : p x ≡ p k = ap p (tuples_tie x k ((Equal-is (tuple_cmp x k)).0 f)) in cc
  apart false f g = refl

  by : (b : Bool) → p k ≡ b → list_any (λ y. is_eq (tuple_cmp x y)) (filter p ks) ≡ false → list_any (λ y. is_eq (tuple_cmp x y)) (cond b (k ∷ filter p ks) (filter p ks)) ≡ false
  by true f rest = λ i. apart (is_eq (tuple_cmp x k)) refl f i || rest i
  by false f rest = rest

-- so the test says whether it is
any-is : (p : List AnyValue → Bool) (x : List AnyValue) (ks : List (List AnyValue)) → Has x ks → list_any (λ k. is_eq (tuple_cmp x k)) (filter p ks) ≡ p x
any-is p x ks m = by (p x) refl where
  by : (b : Bool) → p x ≡ b → list_any (λ k. is_eq (tuple_cmp x k)) (filter p ks) ≡ b
  by true e = any-has p x ks e m
  by false e = any-not p x ks e

-- a key that is below others is none of them
pub none_of : (x : List AnyValue) (ks : List (List AnyValue)) → Below tuple_cmp x ks → list_any (λ k. is_eq (tuple_cmp x k)) ks ≡ false
none_of x [] b = refl
none_of x (k ∷ ks) b = λ i. is_eq (b.0 i) || none_of x ks b.1 i

-- a key that is below others is below those that pass a test
below-filter : (p : List AnyValue → Bool) (x : List AnyValue) (ks : List (List AnyValue)) → Below tuple_cmp x ks → Below tuple_cmp x (filter p ks)
below-filter p x [] b = tt
below-filter p x (k ∷ ks) b = by (p k) (below-filter p x ks b.1) where
  by : (t : Bool) → Below tuple_cmp x (filter p ks) → Below tuple_cmp x (cond t (k ∷ filter p ks) (filter p ks))
  by true rest = (b.0, rest)
  by false rest = rest

-- and so those of ascending keys ascend
ascending-filter : (p : List AnyValue → Bool) (ks : List (List AnyValue)) → IsAscending tuple_cmp ks → IsAscending tuple_cmp (filter p ks)
ascending-filter p [] a = tt
ascending-filter p (k ∷ ks) a = by (p k) (ascending-filter p ks a.1) where
  by : (t : Bool) → IsAscending tuple_cmp (filter p ks) → IsAscending tuple_cmp (cond t (k ∷ filter p ks) (filter p ks))
  by true rest = (below-filter p k ks a.0, rest)
  by false rest = rest

-- a key that passes a test is one of the keys
from-filter : (p : List AnyValue → Bool) (x : List AnyValue) (ks : List (List AnyValue)) → Has x (filter p ks) → Has x ks
from-filter p x [] m = m
from-filter p x (k ∷ ks) m = by (p k) m (from-filter p x ks) where
  by : (t : Bool) → Has x (cond t (k ∷ filter p ks) (filter p ks)) → (Has x (filter p ks) → Has x ks) → Has x (k ∷ ks)
  by true (inl e) next = inl e
  by true (inr n) next = inr (next n)
  by false n next = inr (next n)

-- the key of a row is one of the keys
key-of : (r : Row) (rs : List Row) → Has r rs → Has r.key (keys_of rs)
key-of r [] m = absurd m
key-of r (s ∷ rs) (inl e) = inl (ap (λ (x : Row). x.key) e)
key-of r (s ∷ rs) (inr m) = inr (key-of r rs m)

-- and one of the tuples
tuple-of : (r : Row) (rs : List Row) → Has r rs → Has r.key (tuples_of rs)
tuple-of r rs m = sorted-has_on AnyKey tuple_cmp (exact_on tuple_cmp tuples_total tuples_tie) r.key (keys_of rs) (any_keys (keys_of rs)) (key-of r rs m)

-- ---- rows with a part of their keys

-- a row with a part of its key
abbrev pub with_part : (List AnyValue → List AnyValue) → Row → Row
with_part part r = record r { key = part r.key }

-- what stands at a row
abbrev standing : Row → Place × List AnyValue
standing r = (r.place, r.inputs)

-- the entries of a tuple count as the rows of which it is a part
pub count-at : (part : List AnyValue → List AnyValue) (tuple : List AnyValue) (test : Place × List AnyValue → Bool) (rs : List Row)
    → count_by test (rows_at (map (with_part part) rs) tuple) ≡ count_by (λ r. is_eq (tuple_cmp (part r.key) tuple) && test (standing r)) rs
count-at part tuple test [] = refl
count-at part tuple test (r ∷ rs) = by (is_eq (tuple_cmp (part r.key) tuple)) refl (count-at part tuple test rs) ∙ sym (count-cons (λ s. is_eq (tuple_cmp (part s.key) tuple) && test (standing s)) r rs) where
  rest : ℕ
  rest = count_by (λ s. is_eq (tuple_cmp (part s.key) tuple) && test (standing s)) rs

  by : (b : Bool) → is_eq (tuple_cmp (part r.key) tuple) ≡ b → count_by test (rows_at (map (with_part part) rs) tuple) ≡ count_by (λ s. is_eq (tuple_cmp (part s.key) tuple) && test (standing s)) rs
      → count_by test (rows_at (map (with_part part) (r ∷ rs)) tuple) ≡ cond (is_eq (tuple_cmp (part r.key) tuple) && test (standing r)) 1 0 + count_by (λ s. is_eq (tuple_cmp (part s.key) tuple) && test (standing s)) rs
  by true f e = rw f (count-cons test (standing r) (rows_at (map (with_part part) rs) tuple) ∙ ap (λ (n : ℕ). cond (test (standing r)) 1 0 + n) e)
  by false f e = rw f (e ∙ zero_plus (count_by (λ s. is_eq (tuple_cmp (part s.key) tuple) && test (standing s)) rs)) where
    zero_plus : (n : ℕ) → n ≡ 0 + n
    zero_plus n = omega arith

-- rows with their whole keys are the rows
pub whole : (rs : List Row) → map (with_part (λ key. key)) rs ≡ rs
whole [] = refl
whole (r ∷ rs) = ap (λ (l : List Row). r ∷ l) (whole rs)

-- the entries of a key count as its rows
count-key : (k : List AnyValue) (test : Place × List AnyValue → Bool) (rs : List Row) → count_by test (rows_at rs k) ≡ count_by (λ r. is_eq (tuple_cmp r.key k) && test (standing r)) rs
count-key k test rs = ap (λ (l : List Row). count_by test (rows_at l k)) (sym (whole rs)) ∙ count-at (λ key. key) k test rs

-- the entries of ascending keys count as the rows of any of them
pub count-keys : (ks : List (List AnyValue)) (test : Place × List AnyValue → Bool) (rs : List Row) → IsAscending tuple_cmp ks
    → count_by test (joined (map (rows_at rs) ks)) ≡ count_by (λ r. list_any (λ k. is_eq (tuple_cmp r.key k)) ks && test (standing r)) rs
count-keys [] test rs a = sym (count-none rs)
count-keys (k ∷ ks) test rs a =
    count-append test (rows_at rs k) (joined (map (rows_at rs) ks))
    ∙ (λ i. count-key k test rs i + count-keys ks test rs a.1 i)
    ∙ count-either (λ r. is_eq (tuple_cmp r.key k)) (λ r. list_any (λ x. is_eq (tuple_cmp r.key x)) ks) (λ r. test (standing r)) rs
    (λ r e. ap (λ (y : List AnyValue). list_any (λ x. is_eq (tuple_cmp y x)) ks) (tuples_tie r.key k ((Equal-is (tuple_cmp r.key k)).0 e)) ∙ none_of k ks a.0)

-- the entries of the keys of which a tuple is a part count as the rows of which it is
count-part : (part : List AnyValue → List AnyValue) (tuple : List AnyValue) (test : Place × List AnyValue → Bool) (rs : List Row)
    → count_by test (joined (map (rows_at rs) (filter (λ k. is_eq (tuple_cmp (part k) tuple)) (tuples_of rs)))) ≡ count_by (λ r. is_eq (tuple_cmp (part r.key) tuple) && test (standing r)) rs
count-part part tuple test rs =
    let p : List AnyValue → Bool = λ k. is_eq (tuple_cmp (part k) tuple) in
    count-keys (filter p (tuples_of rs)) test rs (ascending-filter p (tuples_of rs) (sorted-ascending tuple_cmp tuples_total (keys_of rs)))
    ∙ count-same (λ r. list_any (λ k. is_eq (tuple_cmp r.key k)) (filter p (tuples_of rs))) (λ r. p r.key) (λ r. test (standing r)) rs
    (λ r m. any-is p r.key (tuples_of rs) (tuple-of r rs m))

-- ---- state rows

-- entries that have a first one have what they come to
some_have : (q : QueryTree) (k : List AnyValue) (es : Entries) (e : Place × List AnyValue) → first_entry es ≡ Some e → HasResults q.schema q.aggs 0 0 (row_of_entries q k es) es
some_have q k [] e f = cc
some_have q k (x ∷ xs) e f = entries_have q k x xs

-- state rows of keys have the results of their rows
rows_have : (q : QueryTree) (rs : List Row) (ks : List (List AnyValue)) → ((k : List AnyValue) → Has k ks → Has k (keys_of rs)) → EachFor (HasResults q.schema q.aggs 0 0) (map (state_row q rs) ks) (map (rows_at rs) ks)
rows_have q rs [] h = tt
rows_have q rs (k ∷ ks) h = let first = has_entry rs k (h k (inl refl)) in (some_have q k (rows_at rs k) first.0 first.1, rows_have q rs ks (λ x m. h x (inr m)))

-- the state rows of which a tuple is a part are those of such keys
rows_with-tuples : (q : QueryTree) (part : List AnyValue → List AnyValue) (tuple : List AnyValue) (rs : List Row) (ks : List (List AnyValue))
    → rows_with part tuple (map (state_row q rs) ks) ≡ map (state_row q rs) (filter (λ k. is_eq (tuple_cmp (part k) tuple)) ks)
rows_with-tuples q part tuple rs [] = refl
rows_with-tuples q part tuple rs (k ∷ ks) = by (is_eq (tuple_cmp (part k) tuple)) (rows_with-tuples q part tuple rs ks) where
  by : (b : Bool) → rows_with part tuple (map (state_row q rs) ks) ≡ map (state_row q rs) (filter (λ x. is_eq (tuple_cmp (part x) tuple)) ks)
      → cond b (state_row q rs k ∷ rows_with part tuple (map (state_row q rs) ks)) (rows_with part tuple (map (state_row q rs) ks))
      ≡ map (state_row q rs) (cond b (k ∷ filter (λ x. is_eq (tuple_cmp (part x) tuple)) ks) (filter (λ x. is_eq (tuple_cmp (part x) tuple)) ks))
  by true e = ap (λ (l : List StateRow). state_row q rs k ∷ l) e
  by false e = e

-- the entries that state rows of which a tuple is a part stand for: those of the rows of which it is
pub record Gathered (q : QueryTree) (part : List AnyValue → List AnyValue) (tuple : List AnyValue) (rows : List StateRow) (rs : List Row) : Type 0 where
  pub lists : List Entries
  pub each : EachFor (HasResults q.schema q.aggs 0 0) (rows_with part tuple rows) lists
  pub counts : (test : Place × List AnyValue → Bool) → count_by test (joined lists) ≡ count_by (λ r. is_eq (tuple_cmp (part r.key) tuple) && test (standing r)) rs

-- so it is of the state rows of some rows
gathered-once : (q : QueryTree) (part : List AnyValue → List AnyValue) (tuple : List AnyValue) (rs : List Row) → Gathered q part tuple (state_rows q rs) rs
gathered-once q part tuple rs =
    let p : List AnyValue → Bool = λ k. is_eq (tuple_cmp (part k) tuple) in
    let ks : List (List AnyValue) = filter p (tuples_of rs) in
    record {
      lists = map (rows_at rs) ks;
      each = subst (λ (l : List StateRow). EachFor (HasResults q.schema q.aggs 0 0) l (map (rows_at rs) ks)) (sym (rows_with-tuples q part tuple rs (tuples_of rs)))
          (rows_have q rs ks (λ k m. sorted-from tuple_cmp k (keys_of rs) (from-filter p k (tuples_of rs) m)));
      counts = λ test. count-part part tuple test rs;
    }

-- lists of lists, joined
joined-append : (lists others : List Entries) → joined (lists ++ others) ≡ joined lists ++ joined others
joined-append [] others = refl
joined-append (es ∷ lists) others = ap (λ (l : Entries). es ++ l) (joined-append lists others) ∙ sym (append_assoc es (joined lists) (joined others))

-- and of the state rows of parts
pub gathered : (q : QueryTree) (part : List AnyValue → List AnyValue) (tuple : List AnyValue) (parts : List Part) → Gathered q part tuple (rows_of_states (map (saved q) parts)) (rows_of_parts parts)
gathered q part tuple [] = record { lists = []; each = tt; counts = λ test. refl }
gathered q part tuple (x ∷ parts) =
    let here = gathered-once q part tuple x.rows in
    let rest = gathered q part tuple parts in
    let more : List StateRow = rows_of_states (map (saved q) parts) in
    record {
      lists = here.lists ++ rest.lists;
      each = subst (λ (l : List StateRow). EachFor (HasResults q.schema q.aggs 0 0) l (here.lists ++ rest.lists))
          (sym (filter-append (λ (r : StateRow). is_eq (tuple_cmp (part r.key) tuple)) (state_rows q x.rows) more))
          (each-append (HasResults q.schema q.aggs 0 0) (rows_with part tuple (state_rows q x.rows)) (rows_with part tuple more) here.lists rest.lists here.each rest.each);
      counts = λ test.
          ap (count_by test) (joined-append here.lists rest.lists)
          ∙ count-append test (joined here.lists) (joined rest.lists)
          ∙ (λ i. here.counts test i + rest.counts test i)
          ∙ sym (count-append (λ r. is_eq (tuple_cmp (part r.key) tuple) && test (standing r)) x.rows (rows_of_parts parts));
    }
