-- Running aggregates, one for each prototype: how many values they have counted at most, and what they take.
use Rattle.std.proofs.Common.{◌≡◌, ◌∙◌, ℕ, zero, suc, ◌+◌, ◌<◌, ◌≤◌, true, List, [], ◌∷◌, length, get_or, drop, sym, ap, subst, arith}
use Rattle.std.proofs.lemmas.List.{drop_more, length-drop}
use Rattle.pipe_columns.specs.declared.any_value.AnyValue.{AnyValue}
use Rattle.pipe_columns.specs.declared.place.Place.{Place}
use Rattle.pipe_columns.specs.Frame.{value_at}
use Rattle.pipe_running.specs.declared.function.AggregateFunction.{AggregateFunction}
use Rattle.pipe_running.specs.GroupStates.{fed_from, fresh_states, StatesHold, StatesSeen, TakesFrom}
use Rattle.pipe_running.specs.StateLaws.{function_by_one, function_takes_alike}
use Rattle.pipe_running.specs.States.{seen, takes}
use Rattle.pipe_running.proofs.KindStays.{same-fresh, seen-fresh}

-- before any row nothing is counted
pub fresh-hold : (n : ℕ) (fs : List AggregateFunction) → StatesHold n fs (fresh_states fs)
fresh-hold n [] = tt
fresh-hold n (f ∷ fs) = ((omega (arith, seen-fresh f), (same-fresh f).takes), fresh-hold n fs)

-- one more row counts one more value at most
pub fed_from-hold : (n : ℕ) (p : Place) (j : ℕ) (inputs : List AnyValue) (fs ss : List AggregateFunction) → StatesHold n fs ss → StatesHold (n + 1) fs (fed_from p j inputs ss)
fed_from-hold n p j inputs [] [] h = tt
fed_from-hold n p j inputs [] (s ∷ ss) h = absurd h
fed_from-hold n p j inputs (f ∷ fs) [] h = absurd h
fed_from-hold n p j inputs (f ∷ fs) (s ∷ ss) h =
    let v = value_at inputs j in
    ((omega (arith, function_by_one p v s, h.0.0), λ w. function_takes_alike p v w s ∙ h.0.1 w), fed_from-hold n p (j + 1) inputs fs ss h.1)

-- a greater number is a bound too
pub states-weaker : (m n : ℕ) (fs ss : List AggregateFunction) → m ≤ n → StatesHold m fs ss → StatesHold n fs ss
states-weaker m n [] [] le h = tt
states-weaker m n [] (s ∷ ss) le h = absurd h
states-weaker m n (f ∷ fs) [] le h = absurd h
states-weaker m n (f ∷ fs) (s ∷ ss) le h = ((omega (arith, h.0.0, le), h.0.1), states-weaker m n fs ss le h.1)

-- ---- what is known when a row comes

-- how many values were counted
pub hold-seen : (n : ℕ) (fs ss : List AggregateFunction) → StatesHold n fs ss → StatesSeen n ss
hold-seen n [] [] h = tt
hold-seen n [] (s ∷ ss) h = absurd h
hold-seen n (f ∷ fs) [] h = absurd h
hold-seen n (f ∷ fs) (s ∷ ss) h = (h.0.0, hold-seen n fs ss h.1)

-- what they take is what the prototypes take
pub hold-takes : (n j : ℕ) (inputs : List AnyValue) (fs ss : List AggregateFunction) → StatesHold n fs ss → TakesFrom j fs inputs → TakesFrom j ss inputs
hold-takes n j inputs [] [] h t = tt
hold-takes n j inputs [] (s ∷ ss) h t = absurd h
hold-takes n j inputs (f ∷ fs) [] h t = absurd h
hold-takes n j inputs (f ∷ fs) (s ∷ ss) h t = (h.0.1 (value_at inputs j) ∙ t.0, hold-takes n (j + 1) inputs fs ss h.1 t.1)

-- ---- a loop over running aggregates

-- the one at a position of states that are from there on as they were
pub left_at : (before states : List AggregateFunction) (j : ℕ) (s : AggregateFunction) → drop j states ≡ drop j before → j < length before → s ≡ get_or states j s
    → drop j before ≡ s ∷ drop (j + 1) states
left_at before states j s left lt here =
    let within : j < length states = omega (arith, ap length left, length-drop j states, length-drop j before, lt) in
    sym left ∙ drop_more states j s within ∙ ap (λ (x : AggregateFunction). x ∷ drop (j + 1) states) (sym here)

-- it has counted no more than the bound
pub seen-at : (n : ℕ) (s : AggregateFunction) (ss rest : List AggregateFunction) (j : ℕ) → drop j ss ≡ s ∷ rest → StatesSeen n ss → seen s ≤ n
seen-at n s [] rest zero e h = cc e
seen-at n s (x ∷ xs) rest zero e h = let P : List AggregateFunction → Type 0 = λ ys. StatesSeen n ys in (subst P e h).0
seen-at n s [] rest (suc j) e h = cc e
seen-at n s (x ∷ xs) rest (suc j) e h = seen-at n s xs rest j e h.1

-- and takes its input
pub takes-at : (i j : ℕ) (s : AggregateFunction) (ss rest : List AggregateFunction) (inputs : List AnyValue) → drop j ss ≡ s ∷ rest → TakesFrom i ss inputs
    → takes s (value_at inputs (i + j)) ≡ true
takes-at i zero s [] rest inputs e h = cc e
takes-at i zero s (x ∷ xs) rest inputs e h =
    let P : List AggregateFunction → Type 0 = λ ys. TakesFrom i ys inputs in
    let T : ℕ → Type 0 = λ k. takes s (value_at inputs k) ≡ true in
    subst T (omega arith) (subst P e h).0
takes-at i (suc j) s [] rest inputs e h = cc e
takes-at i (suc j) s (x ∷ xs) rest inputs e h =
    let T : ℕ → Type 0 = λ k. takes s (value_at inputs k) ≡ true in
    subst T (omega arith) (takes-at (i + 1) j s xs rest inputs e h.1)
