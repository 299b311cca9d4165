-- The running aggregates of a table: how many values they have counted at most, and what they take.
use Rattle.std.proofs.Common.{ap, sym, ◌≡◌, ◌∙◌, ℕ, zero, suc, ◌+◌, ◌<◌, ◌≤◌, true, List, [], ◌∷◌, length, map, get_or, drop, subst, arith}
use Rattle.std.specs.declared.cmp.Ordering.{Ordering}
use Rattle.std.specs.declared.cmp.Ordering.TheVariants.{Less, Equal, Greater}
use Rattle.std.specs.Ordering.{match_ordering}
use Rattle.std.proofs.lemmas.List.{drop_more, length-drop}
use Rattle.pipe_columns.specs.declared.any_value.AnyValue.{AnyValue}
use Rattle.pipe_columns.specs.declared.place.Place.{Place}
use Rattle.pipe_columns.specs.Frame.{value_at}
use Rattle.pipe_columns.specs.Row.{Row}
use Rattle.pipe_running.specs.declared.function.AggregateFunction.{AggregateFunction}
use Rattle.pipe_running.specs.StateLaws.{function_by_one, function_takes_alike}
use Rattle.pipe_running.specs.States.{seen, takes}
use Rattle.pipe_running.proofs.KindStays.{same-fresh, seen-fresh}
use Rattle.pipe_model.specs.Answer.{tuple_cmp}
use Rattle.test_plain.specs.declared.groups.Group.{Group}
use Rattle.test_plain.specs.Running.{fed, group_seen, Line, starts, Table, TableHolds, with_row, with_rows}
use Rattle.pipe_running.specs.GroupStates.{fed_from, StatesHold, StatesSeen, TakesFrom}

-- ---- one line

-- before any row nothing is counted
pub starts-hold : (n : ℕ) (fs : List AggregateFunction) → StatesHold n fs (starts fs).states
starts-hold n [] = tt
starts-hold n (f ∷ fs) = ((omega (arith, seen-fresh f), (same-fresh f).takes), starts-hold n fs)

-- one more row counts one more value at most
fed_from-hold : (n : ℕ) (p : Place) (j : ℕ) (inputs : List AnyValue) (fs ss : List AggregateFunction) → StatesHold n fs ss → StatesHold (n + 1) fs (fed_from p j inputs ss)
fed_from-hold n p j inputs [] [] h = tt
fed_from-hold n p j inputs [] (s ∷ ss) h = absurd h
fed_from-hold n p j inputs (f ∷ fs) [] h = absurd h
fed_from-hold n p j inputs (f ∷ fs) (s ∷ ss) h =
    let v = value_at inputs j in
    ((omega (arith, function_by_one p v s, h.0.0), λ w. function_takes_alike p v w s ∙ h.0.1 w), fed_from-hold n p (j + 1) inputs fs ss h.1)

states-weaker : (m n : ℕ) (fs ss : List AggregateFunction) → m ≤ n → StatesHold m fs ss → StatesHold n fs ss
states-weaker m n [] [] le h = tt
states-weaker m n [] (s ∷ ss) le h = absurd h
states-weaker m n (f ∷ fs) [] le h = absurd h
states-weaker m n (f ∷ fs) (s ∷ ss) le h = ((omega (arith, h.0.0, le), h.0.1), states-weaker m n fs ss le h.1)

-- what is known of running aggregates when a row comes
pub hold-seen : (n : ℕ) (fs ss : List AggregateFunction) → StatesHold n fs ss → StatesSeen n ss
hold-seen n [] [] h = tt
hold-seen n [] (s ∷ ss) h = absurd h
hold-seen n (f ∷ fs) [] h = absurd h
hold-seen n (f ∷ fs) (s ∷ ss) h = (h.0.0, hold-seen n fs ss h.1)

pub hold-takes : (n j : ℕ) (inputs : List AnyValue) (fs ss : List AggregateFunction) → StatesHold n fs ss → TakesFrom j fs inputs → TakesFrom j ss inputs
hold-takes n j inputs [] [] h t = tt
hold-takes n j inputs [] (s ∷ ss) h t = absurd h
hold-takes n j inputs (f ∷ fs) [] h t = absurd h
hold-takes n j inputs (f ∷ fs) (s ∷ ss) h t = (h.0.1 (value_at inputs j) ∙ t.0, hold-takes n (j + 1) inputs fs ss h.1 t.1)

-- ---- a table

pub table-weaker : (m n : ℕ) (fs : List AggregateFunction) (t : Table) → m ≤ n → TableHolds m fs t → TableHolds n fs t
table-weaker m n fs [] le h = tt
table-weaker m n fs (g ∷ gs) le h = (states-weaker m n fs g.1.states le h.0, table-weaker m n fs gs le h.1)

pub with_row-holds : (n : ℕ) (fs : List AggregateFunction) (start : Line) (t : Table) (r : Row) → StatesHold n fs start.states → TableHolds n fs t
    → TableHolds (n + 1) fs (with_row start t r)
with_row-holds n fs start [] r s h = (fed_from-hold n r.place 0 r.inputs fs start.states s, tt)
with_row-holds n fs start (g ∷ gs) r s h = put_at (tuple_cmp r.key g.0) (with_row-holds n fs start gs r s h.1) where
  put_at : (o : Ordering) → TableHolds (n + 1) fs (with_row start gs r)
      → TableHolds (n + 1) fs (match_ordering o ((r.key, fed (r.place, r.inputs) start) ∷ g ∷ gs) ((g.0, fed (r.place, r.inputs) g.1) ∷ gs) (g ∷ with_row start gs r))
  put_at Less rest = (fed_from-hold n r.place 0 r.inputs fs start.states s, table-weaker n (n + 1) fs (g ∷ gs) (omega arith) h)
  put_at Equal rest = (fed_from-hold n r.place 0 r.inputs fs g.1.states h.0, table-weaker n (n + 1) fs gs (omega arith) h.1)
  put_at Greater rest = (states-weaker n (n + 1) fs g.1.states (omega arith) h.0, rest)

-- so do rows
pub with_rows-hold : (n : ℕ) (fs : List AggregateFunction) (t : Table) (rs : List Row) → TableHolds n fs t → TableHolds (n + length rs) fs (with_rows (starts fs) t rs)
with_rows-hold n fs t [] h = table-weaker n (n + 0) fs t (omega arith) h
with_rows-hold n fs t (r ∷ rs) h =
    let rest = with_rows-hold (n + 1) fs (with_row (starts fs) t r) rs (with_row-holds n fs (starts fs) t r (starts-hold n fs) h) in
    table-weaker (n + 1 + length rs) (n + length (r ∷ rs)) fs (with_rows (starts fs) t (r ∷ rs)) (omega arith) rest

pub table-at : (n : ℕ) (fs : List AggregateFunction) (items : List Group) (i : ℕ) (d : Group) → i < length items → TableHolds n fs (map group_seen items)
    → StatesHold n fs (get_or items i d).states.items
table-at n fs [] i d lt h = absurd (omega arith)
table-at n fs (g ∷ gs) zero d lt h = h.0
table-at n fs (g ∷ gs) (suc i) d lt h = table-at n fs gs i d (omega arith) h.1

-- ---- the running aggregates that are left

-- the running aggregate at a place of states that are from there on as they were
pub left_at : (before states : List AggregateFunction) (j : ℕ) (s : AggregateFunction) → drop j states ≡ drop j before → j < length before → s ≡ get_or states j s
    → drop j before ≡ s ∷ drop (j + 1) states
left_at before states j s left lt here =
    let within : j < length states = omega (arith, ap length left, length-drop j states, length-drop j before, lt) in
    sym left ∙ drop_more states j s within ∙ ap (λ (x : AggregateFunction). x ∷ drop (j + 1) states) (sym here)

pub seen-at : (n : ℕ) (s : AggregateFunction) (ss rest : List AggregateFunction) (j : ℕ) → drop j ss ≡ s ∷ rest → StatesSeen n ss → seen s ≤ n
seen-at n s [] rest zero e h = cc e
seen-at n s (x ∷ xs) rest zero e h = let P : List AggregateFunction → Type 0 = λ ys. StatesSeen n ys in (subst P e h).0
seen-at n s [] rest (suc j) e h = cc e
seen-at n s (x ∷ xs) rest (suc j) e h = seen-at n s xs rest j e h.1

pub takes-at : (i j : ℕ) (s : AggregateFunction) (ss rest : List AggregateFunction) (inputs : List AnyValue) → drop j ss ≡ s ∷ rest → TakesFrom i ss inputs
    → takes s (value_at inputs (i + j)) ≡ true
takes-at i zero s [] rest inputs e h = cc e
takes-at i zero s (x ∷ xs) rest inputs e h =
    let P : List AggregateFunction → Type 0 = λ ys. TakesFrom i ys inputs in
    let T : ℕ → Type 0 = λ k. takes s (value_at inputs k) ≡ true in
    subst T (omega arith) (subst P e h).0
takes-at i (suc j) s [] rest inputs e h = cc e
takes-at i (suc j) s (x ∷ xs) rest inputs e h =
    let T : ℕ → Type 0 = λ k. takes s (value_at inputs k) ≡ true in
    subst T (omega arith) (takes-at (i + 1) j s xs rest inputs e h.1)
