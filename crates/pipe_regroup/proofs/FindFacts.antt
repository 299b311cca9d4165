-- Where a group is found by the code of its tuple, and groups with one more row.
use Rattle.std.proofs.Common.{◌≡◌, ◌∙◌, ℕ, zero, suc, ◌+◌, ◌<◌, ◌≤◌, ◌||◌, Bool, true, false, cond, List, [], ◌∷◌, ◌++◌, length, map, take, get_or, set, All, refl, sym, ap, arith}
use Rattle.std.specs.List.{list_any}
use Rattle.std.specs.Cmp.Lexicographic.{bytes_decides}
use Rattle.std.specs.Ordering.{is_eq}
use Rattle.std.specs.Str.{bytes_eq}
use Rattle.std.proofs.lemmas.Bool.{false≢true}
use Rattle.std.proofs.lemmas.List.Elements.{All-head, All-tail}
use Rattle.std.proofs.lemmas.List.Sums.{sum_by-cons}
use Rattle.pipe_columns.specs.declared.any_value.AnyValue.{AnyValue}
use Rattle.pipe_columns.specs.declared.data_type.DataType.{DataType}
use Rattle.pipe_columns.specs.Key.{code}
use Rattle.pipe_model.specs.Answer.{tuple_cmp}
use Rattle.pipe_spill.specs.KeyTypes.{AreOfTypes}
use Rattle.pipe_spill.proofs.CodeOrder.{codes_injective}
use Rattle.pipe_states.specs.Regrouped.{kept}
use Rattle.pipe_states.specs.declared.state_row.StateRow.{StateRow}
use Rattle.pipe_regroup.specs.declared.rule.Rule.{Rule}
use Rattle.pipe_regroup.specs.Rules.{joined_from}
use Rattle.pipe_regroup.specs.Groups.{count_rows, is_earlier, is_later, IsGroupOf, IsJoinable, joined_row, started, with_row, with_rows}
use Rattle.pipe_regroup.proofs.TupleLists.{same-is, same-itself, same_tuple, Tuple}

-- codes are one where their tuples are
same-code : (types : List DataType) (a p : Tuple) → AreOfTypes types a → AreOfTypes types p → bytes_eq (code types p) (code types a) ≡ same_tuple a p
same-code types a p ta tp = by (bytes_eq (code types p) (code types a)) (same_tuple a p) refl refl where
  one : bytes_eq (code types p) (code types a) ≡ true → p ≡ a
  one e = codes_injective types p a tp ta ((bytes_decides (code types p) (code types a)).0 e)

  by : (x y : Bool) → bytes_eq (code types p) (code types a) ≡ x → same_tuple a p ≡ y → x ≡ y
  by true true e f = refl
  by false false e f = refl
  by true false e f = absurd (false≢true (sym f ∙ ap (same_tuple a) (one e) ∙ same-itself a))
  by false true e f = absurd (false≢true (sym e ∙ (bytes_decides (code types p) (code types a)).1 (ap (code types) (sym (same-is a p f)))))

module _ (keep : List ℕ) (types : List DataType) (rules : List Rule) (r : StateRow) (typed : AreOfTypes types (kept keep r.key)) where
  -- the code of the row's tuple
  abbrev sought : List ℕ
  sought = code types (kept keep r.key)

  -- those of groups
  abbrev codes : List StateRow → List (List ℕ)
  codes gs = map (λ g. code types g.key) gs

  -- where no code is the row's, it begins a group
  pub with_row-new : (gs : List StateRow) → All (IsGroupOf types rules) gs → list_any (λ c. bytes_eq (code types (kept keep r.key)) c) (codes gs) ≡ false
      → with_row keep rules gs r ≡ gs ++ started keep r ∷ []
  with_row-new [] h e = refl
  with_row-new (g ∷ gs) h e =
      let test = same-code types g.key (kept keep r.key) (All-head (IsGroupOf types rules) g gs h).typed typed in
      by (is_eq (tuple_cmp g.key (kept keep r.key))) (bytes_eq (code types (kept keep r.key)) (code types g.key)) test e (with_row-new gs (All-tail (IsGroupOf types rules) g gs h))
    where
      by : (x y : Bool) → y ≡ x → (y || list_any (λ c. bytes_eq (code types (kept keep r.key)) c) (codes gs)) ≡ false
          → (list_any (λ c. bytes_eq (code types (kept keep r.key)) c) (codes gs) ≡ false → with_row keep rules gs r ≡ gs ++ started keep r ∷ [])
          → cond x (joined_row rules g r ∷ gs) (g ∷ with_row keep rules gs r) ≡ g ∷ (gs ++ started keep r ∷ [])
      by true true s f next = cc
      by true false s f next = absurd (false≢true s)
      by false true s f next = absurd (false≢true (sym s))
      by false false s f next = ap (λ (l : List StateRow). g ∷ l) (next f)

  -- at the first place where one is, it joins that group
  pub with_row-found : (gs : List StateRow) (i : ℕ) (d : List ℕ) (g : StateRow) → All (IsGroupOf types rules) gs → i < length gs → g ≡ get_or gs i g
      → bytes_eq (code types (kept keep r.key)) (get_or (codes gs) i d) ≡ true
      → ((k : ℕ) → k < i → bytes_eq (code types (kept keep r.key)) (get_or (codes gs) k d) ≡ false) → with_row keep rules gs r ≡ set gs i (joined_row rules g r)
  with_row-found [] i d g h lt is here none = absurd (omega (arith, lt))
  with_row-found (x ∷ gs) zero d g h lt is here none =
      let test = same-code types x.key (kept keep r.key) (All-head (IsGroupOf types rules) x gs h).typed typed in
      ap (λ (b : Bool). cond b (joined_row rules x r ∷ gs) (x ∷ with_row keep rules gs r)) (sym test ∙ here)
      ∙ ap (λ (y : StateRow). joined_row rules y r ∷ gs) (sym is)
  with_row-found (x ∷ gs) (suc i) d g h lt is here none =
      let test = same-code types x.key (kept keep r.key) (All-head (IsGroupOf types rules) x gs h).typed typed in
      ap (λ (b : Bool). cond b (joined_row rules x r ∷ gs) (x ∷ with_row keep rules gs r)) (sym test ∙ none 0 (omega arith))
      ∙ ap (λ (l : List StateRow). x ∷ l)
      (with_row-found gs i d g (All-tail (IsGroupOf types rules) x gs h) (omega (arith, lt)) is here (λ k less. none (suc k) (omega (arith, less))))

  -- its group has a tuple of the types, and a result for each rule
  pub started-group : IsJoinable keep types rules r → IsGroupOf types rules (started keep r)
  started-group j = record { typed = j.typed; results = j.results }

-- as many results as rules
joined-long : (e l : Bool) (j : ℕ) (rules : List Rule) (more held : List AnyValue) → length (joined_from e l j rules more held) ≡ length rules
joined-long e l j [] more held = refl
joined-long e l j (k ∷ rules) more held = let rest = joined-long e l (j + 1) rules more held in omega arith

pub joined-group : (types : List DataType) (rules : List Rule) (g r : StateRow) → IsGroupOf types rules g → IsGroupOf types rules (joined_row rules g r)
joined-group types rules g r h = record { typed = h.typed; results = joined-long (is_earlier g r) (is_later g r) 0 rules r.results g.results }

-- ---- lists

-- the image of a list with an element whose image is that of the one before
pub map-set : {X Y : Type 0} (f : X → Y) (xs : List X) (i : ℕ) (y : X) → map f (set xs i y) ≡ set (map f xs) i (f y)
map-set f [] i y = refl
map-set f (x ∷ xs) zero y = refl
map-set f (x ∷ xs) (suc i) y = ap (λ (l : List _). f x ∷ l) (map-set f xs i y)

pub set-same : {X : Type 0} (xs : List X) (i : ℕ) (y : X) → i < length xs → y ≡ get_or xs i y → set xs i y ≡ xs
set-same [] i y lt e = refl
set-same (x ∷ xs) zero y lt e = ap (λ (z : _). z ∷ xs) e
set-same (x ∷ xs) (suc i) y lt e = ap (λ (l : List _). x ∷ l) (set-same xs i y (omega (arith, lt)) e)

-- ---- numbers of rows

-- one of groups is of no more rows than all
pub rows-below : (gs : List StateRow) (i : ℕ) (g : StateRow) → i < length gs → g ≡ get_or gs i g → g.rows ≤ count_rows gs
rows-below [] i g lt e = absurd (omega (arith, lt))
rows-below (x ∷ gs) zero g lt e = let sum = sum_by-cons (λ (s : StateRow). s.rows) x gs in let same = ap (λ (s : StateRow). s.rows) e in omega arith
rows-below (x ∷ gs) (suc i) g lt e = let sum = sum_by-cons (λ (s : StateRow). s.rows) x gs in let rest = rows-below gs i g (omega (arith, lt)) e in omega arith

-- with one more row they are of as many more
row-count : (keep : List ℕ) (rules : List Rule) (gs : List StateRow) (r : StateRow) → count_rows (with_row keep rules gs r) ≡ count_rows gs + r.rows
row-count keep rules [] r = let one = sum_by-cons (λ (s : StateRow). s.rows) (started keep r) [] in omega arith
row-count keep rules (g ∷ gs) r = by (is_eq (tuple_cmp g.key (kept keep r.key))) (row-count keep rules gs r) where
  by : (b : Bool) → count_rows (with_row keep rules gs r) ≡ count_rows gs + r.rows → count_rows (cond b (joined_row rules g r ∷ gs) (g ∷ with_row keep rules gs r)) ≡ count_rows (g ∷ gs) + r.rows
  by true rest = let joined = sum_by-cons (λ (s : StateRow). s.rows) (joined_row rules g r) gs in let whole = sum_by-cons (λ (s : StateRow). s.rows) g gs in omega arith
  by false rest = let more = sum_by-cons (λ (s : StateRow). s.rows) g (with_row keep rules gs r) in let whole = sum_by-cons (λ (s : StateRow). s.rows) g gs in omega arith

pub rows-count : (keep : List ℕ) (rules : List Rule) (gs rows : List StateRow) → count_rows (with_rows keep rules gs rows) ≡ count_rows gs + count_rows rows
rows-count keep rules gs [] = omega arith
rows-count keep rules gs (r ∷ rows) =
    let rest = rows-count keep rules (with_row keep rules gs r) rows in
    let one = row-count keep rules gs r in
    let sum = sum_by-cons (λ (s : StateRow). s.rows) r rows in
    omega arith

-- rows up to one of them are of no more than all
pub count-below : (rows : List StateRow) (i : ℕ) (r : StateRow) → i < length rows → r ≡ get_or rows i r → count_rows (take i rows) + r.rows ≤ count_rows rows
count-below [] i r lt e = absurd (omega (arith, lt))
count-below (x ∷ rows) zero r lt e = let sum = sum_by-cons (λ (s : StateRow). s.rows) x rows in let same = ap (λ (s : StateRow). s.rows) e in omega arith
count-below (x ∷ rows) (suc i) r lt e =
    let sum = sum_by-cons (λ (s : StateRow). s.rows) x rows in
    let front = sum_by-cons (λ (s : StateRow). s.rows) x (take i rows) in
    let rest = count-below rows i r (omega (arith, lt)) e in
    omega arith
