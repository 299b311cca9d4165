-- What is picked of the keys of a query, one by one; all keys are the whole tuple.
use Rattle.std.proofs.Common.{◌≡◌, ◌∙◌, ℕ, zero, suc, ◌+◌, ◌<◌, cond, List, [], ◌∷◌, ◌++◌, length, map, take, get_or, All, append_assoc, refl, sym, ap, arith}
use Rattle.std.specs.List.{flat_map, range_with_len, slice_get}
use Rattle.std.specs.Option.{option_to_list}
use Rattle.std.specs.Ordering.{is_eq}
use Rattle.std.proofs.lemmas.List.{append-nil, length-append, map-append, take_more}
use Rattle.std.proofs.lemmas.List.Elements.{All-cons, All-head, All-nil, All-tail}
use Rattle.std.proofs.lemmas.Grind.{flat_map-append}
use Rattle.pipe_columns.specs.declared.any_value.AnyValue.{AnyValue}
use Rattle.pipe_columns.specs.Frame.{value_at}
use Rattle.pipe_columns.specs.Groups.{sorted_keys}
use Rattle.pipe_model.specs.Answer.{tuple_cmp}
use Rattle.pipe_model.specs.Query.{QueryTree}
use Rattle.pipe_states.specs.Regrouped.{kept, regrouped_row, regrouped_rows, rows_with}
use Rattle.pipe_states.specs.declared.state_row.StateRow.{StateRow}
use Rattle.pipe_states.proofs.TextFacts.{value-first}

-- the elements at some positions
abbrev pub picked : {X : Type 0} → List X → List ℕ → List X
picked xs ks = flat_map (λ k. option_to_list (slice_get xs k)) ks

-- the image of the one at a position
pick-one : {X Y : Type 0} (f : X → Y) (xs : List X) (k : ℕ) (d : Y) → k < length xs → map f (option_to_list (slice_get xs k)) ≡ get_or (map f xs) k d ∷ []
pick-one f [] k d lt = absurd (omega (arith, lt))
pick-one f (x ∷ xs) zero d lt = refl
pick-one f (x ∷ xs) (suc k) d lt = pick-one f xs k d (omega (arith, lt))

-- the images of one more
pub pick-more : {X Y : Type 0} (f : X → Y) (xs : List X) (ks : List ℕ) (i e : ℕ) (d : Y) → i < length ks → get_or ks i e < length xs
    → map f (picked xs (take i ks)) ++ get_or (map f xs) (get_or ks i e) d ∷ [] ≡ map f (picked xs (take (i + 1) ks))
pick-more f xs ks i e d lt within =
    ap (λ (l : List _). map f (picked xs (take i ks)) ++ l) (sym (pick-one f xs (get_or ks i e) d within))
    ∙ sym (map-append f (picked xs (take i ks)) (option_to_list (slice_get xs (get_or ks i e))))
    ∙ ap (map f)
    (ap (λ (l : List _). picked xs (take i ks) ++ l) (sym (append-nil (option_to_list (slice_get xs (get_or ks i e)))))
    ∙ sym (flat_map-append (λ k. option_to_list (slice_get xs k)) (take i ks) (get_or ks i e ∷ []))
    ∙ ap (picked xs) (sym (take_more ks i e lt)))

-- ---- all keys

-- the values from a position on
values-from : (key front : List AnyValue) (n : ℕ) → length front ≡ n → map (value_at (front ++ key)) (range_with_len n (length key)) ≡ key
values-from [] front n e = refl
values-from (v ∷ key) front n e =
    λ i.
    value-first front v key n e i
    ∷ (ap (λ (l : List AnyValue). map (value_at l) (range_with_len (n + 1) (length key))) (sym (append_assoc front (v ∷ []) key))
    ∙ values-from key (front ++ v ∷ []) (n + 1) (let long = length-append front (v ∷ []) in omega (arith, e, long))) i

-- so all positions keep the whole tuple
pub kept-all : (key : List AnyValue) (n : ℕ) → length key ≡ n → kept (range_with_len 0 n) key ≡ key
kept-all key n e = ap (λ (m : ℕ). kept (range_with_len 0 m) key) (sym e) ∙ values-from key [] 0 refl

-- positions of a range are below its end
pub range-below : (a n m : ℕ) → a + n ≡ m → All (λ i. i < m) (range_with_len a n)
range-below a zero m e = All-nil (λ (i : ℕ). i < m)
range-below a (suc n) m e = All-cons (λ (i : ℕ). i < m) a (range_with_len (a + 1) n) (omega (arith, e)) (range-below (a + 1) n m (omega (arith, e)))

-- ---- parts that agree

module _ (q : QueryTree) (part other : List AnyValue → List AnyValue) where
  -- parts agree on the key of a row
  abbrev pub Agree : StateRow → Type 0
  Agree r = part r.key ≡ other r.key

  tuples-agree : (rows : List StateRow) → All Agree rows → map (λ r. part r.key) rows ≡ map (λ r. other r.key) rows
  tuples-agree [] h = refl
  tuples-agree (r ∷ rows) h = λ i. All-head Agree r rows h i ∷ tuples-agree rows (All-tail Agree r rows h) i

  found-agree : (t : List AnyValue) (rows : List StateRow) → All Agree rows → rows_with part t rows ≡ rows_with other t rows
  found-agree t [] h = refl
  found-agree t (r ∷ rows) h =
      (λ i. cond (is_eq (tuple_cmp (All-head Agree r rows h i) t)) (r ∷ found-agree t rows (All-tail Agree r rows h) i) (found-agree t rows (All-tail Agree r rows h) i))

  rows-agree : (rows : List StateRow) (ts : List (List AnyValue)) → All Agree rows → map (λ t. regrouped_row q t (rows_with part t rows)) ts ≡ map (λ t. regrouped_row q t (rows_with other t rows)) ts
  rows-agree rows [] h = refl
  rows-agree rows (t ∷ ts) h = λ i. regrouped_row q t (found-agree t rows h i) ∷ rows-agree rows ts h i

  -- rows regrouped by them are the same
  pub regrouped-agree : (rows : List StateRow) → All Agree rows → regrouped_rows q part rows ≡ regrouped_rows q other rows
  regrouped-agree rows h =
      rows-agree rows (sorted_keys tuple_cmp (map (λ r. part r.key) rows)) h
      ∙ ap (λ (ts : List (List AnyValue)). map (λ t. regrouped_row q t (rows_with other t rows)) (sorted_keys tuple_cmp ts)) (tuples-agree rows h)

-- ---- ranges

-- a range with one number more
pub range-push : (a n j : ℕ) → a + n ≡ j → range_with_len a n ++ j ∷ [] ≡ range_with_len a (n + 1)
range-push a zero j e = ap (λ (m : ℕ). m ∷ []) {x = j} {y = a} (omega (arith, e))
range-push a (suc n) j e =
    ap (λ (l : List ℕ). a ∷ l) (range-push (a + 1) n j (omega (arith, e)))
    ∙ ap (range_with_len a) {x = suc (n + 1)} {y = suc n + 1} (omega arith)
