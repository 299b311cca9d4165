-- The running aggregates of one group among those of all, changed one by one.
use Rattle.std.proofs.Common.{◌≡◌, ◌∙◌, ℕ, ◌+◌, ◌<◌, ◌≤◌, true, List, [], ◌∷◌, ◌++◌, length, map, take, drop, set, refl, sym, ap, arith}
use Rattle.std.proofs.lemmas.List.{append-nil, drop_all, get_or-set_other, get_or-set_same, length-drop, length-set, map-append, set-get_or, set-set, take_all, take_more, take_more_set}
use Rattle.pipe_columns.specs.declared.any_value.AnyValue.{AnyValue}
use Rattle.pipe_columns.specs.declared.place.Place.{Place}
use Rattle.pipe_columns.specs.Frame.{value_at}
use Rattle.pipe_kinds.specs.Columns.{no_state}
use Rattle.pipe_kinds.specs.ManyStates.{ManyStates, state_of, states_in, with_state_of, with_states}
use Rattle.pipe_running.specs.declared.function.AggregateFunction.{AggregateFunction}
use Rattle.pipe_running.specs.GroupStates.{fed_from, fresh_states, run_from, StatesSeen, TakesFrom}
use Rattle.pipe_running.specs.Runs.{after_run}
use Rattle.pipe_running.specs.States.{after_value, fresh, seen, takes}
use Rattle.pipe_groups.proofs.RunFacts.{run-states-next}
use Rattle.pipe_groups.proofs.StateFacts.{fed-next, left-next, same-next, seen-at, takes-at}

abbrev States : Type 0
States = List AggregateFunction

-- ---- one group's are replaced

module _ (m : ManyStates) (i : ℕ) where
  pub put-own : with_states i (states_in m i) m ≡ m
  put-own = ap (λ (gs : List States). record m { groups = gs }) (set-get_or m.groups i [])

  pub put-twice : (a b : States) → with_states i b (with_states i a m) ≡ with_states i b m
  put-twice a b = ap (λ (gs : List States). record m { groups = gs }) (set-set m.groups i a b)

  pub states-put : (ss : States) → i < length m.groups → states_in (with_states i ss m) i ≡ ss
  states-put ss lt = get_or-set_same m.groups i ss [] lt

-- ---- up to a position

-- the running aggregates of a group are changed up to a position, and nothing else is
pub record ChangedTo (old now : ManyStates) (i j : ℕ) : Type 0 where
  pub others : now ≡ with_states i (states_in now i) old
  pub left : drop j (states_in now i) ≡ drop j (states_in old i)

pub changed-none : (m : ManyStates) (i : ℕ) → ChangedTo m m i 0
changed-none m i = record { others = sym (put-own m i); left = refl }

module _ (old now : ManyStates) (i j : ℕ) (c : ChangedTo old now i j) where
  pub changed-count : length now.groups ≡ length old.groups
  changed-count = ap (λ (m : ManyStates). length m.groups) c.others ∙ length-set old.groups i (states_in now i)

  pub changed-fresh : now.fresh ≡ old.fresh
  changed-fresh = ap (λ (m : ManyStates). m.fresh) c.others

  pub changed-one : state_of now i j ≡ state_of old i j
  changed-one = same-next (states_in old i) (states_in now i) j c.left no_state

  pub changed-long : j < length (states_in old i) → j < length (states_in now i)
  changed-long lt = omega (arith, lt, ap (λ (l : States). length l) c.left, length-drop j (states_in now i), length-drop j (states_in old i))

  module _ (new : ManyStates) (s : AggregateFunction) (within : i < length old.groups) (is : new ≡ with_state_of i j s now) where
    pub changed-here : states_in new i ≡ set (states_in now i) j s
    changed-here = ap (λ (m : ManyStates). states_in m i) is ∙ states-put now i (set (states_in now i) j s) (omega (arith, within, changed-count))

    pub changed-next : ChangedTo old new i (j + 1)
    changed-next = record {
      others = is ∙ ap (λ (m : ManyStates). with_states i (set (states_in now i) j s) m) c.others
          ∙ put-twice old i (states_in now i) (set (states_in now i) j s) ∙ ap (λ (ss : States). with_states i ss old) (sym changed-here);
      left = ap (drop (j + 1)) changed-here ∙ left-next (states_in old i) (states_in now i) j c.left s;
    }

  -- where all are changed, the whole list is
  pub changed-end : (after : States → States) (whole : States) → after [] ≡ [] → length (states_in old i) ≤ j → take j (states_in now i) ++ after (drop j (states_in now i)) ≡ whole
      → now ≡ with_states i whole old
  changed-end after whole none le done =
      let cur : States = states_in now i in
      let rest : drop j cur ≡ [] = c.left ∙ drop_all j (states_in old i) le in
      let long : length cur ≤ j = omega (arith, ap (λ (l : States). length l) rest, length-drop j cur) in
      let is : cur ≡ whole = sym (take_all j cur long) ∙ sym (append-nil (take j cur)) ∙ ap (λ (l : States). take j cur ++ l) (sym (ap after rest ∙ none)) ∙ done in
      c.others ∙ ap (λ (ss : States). with_states i ss old) is

-- where those so far are as before any row, so is one more
pub fresh-next : (old now : ManyStates) (i j : ℕ) → ChangedTo old now i j → (new : ManyStates) → i < length old.groups → j < length (states_in old i) → new ≡ with_state_of i j (fresh (state_of now i j)) now
    → take j (states_in now i) ≡ fresh_states (take j (states_in old i)) → take (j + 1) (states_in new i) ≡ fresh_states (take (j + 1) (states_in old i))
fresh-next old now i j c new within lt is done =
    let own : States = states_in old i in
    let s : AggregateFunction = fresh (state_of now i j) in
    let more : fresh_states (take (j + 1) own) ≡ fresh_states (take j own) ++ fresh (state_of old i j) ∷ [] = ap (map fresh) (take_more own j no_state lt) ∙ map-append fresh (take j own) (state_of old i j ∷ []) in
    ap (take (j + 1)) (changed-here old now i j c new s within is) ∙ take_more_set (states_in now i) j s (changed-long old now i j c lt)
    ∙ (λ k. done k ++ fresh (changed-one old now i j c k) ∷ []) ∙ sym more

-- another group's are as before where one group's are replaced
pub put-other : (m : ManyStates) (i k : ℕ) (ss : States) → (k ≡ i → ⊥) → states_in (with_states i ss m) k ≡ states_in m k
put-other m i k ss apart = get_or-set_other m.groups i k ss [] apart

-- ---- fed a row

-- those so far are fed their inputs
pub record FedMany (p : Place) (inputs : List AnyValue) (old now : ManyStates) (i j : ℕ) : Type 0 where
  pub changed : ChangedTo old now i j
  pub fed : take j (states_in now i) ++ fed_from p j inputs (drop j (states_in now i)) ≡ fed_from p 0 inputs (states_in old i)

pub many-none : (p : Place) (inputs : List AnyValue) (m : ManyStates) (i : ℕ) → FedMany p inputs m m i 0
many-none p inputs m i = record { changed = changed-none m i; fed = refl }

module _ (p : Place) (inputs : List AnyValue) (old now : ManyStates) (i j : ℕ) (f : FedMany p inputs old now i j) where
  pub many-takes : j < length (states_in old i) → TakesFrom 0 (states_in old i) inputs → takes (state_of now i j) (value_at inputs j) ≡ true
  many-takes lt h = rw (changed-one old now i j f.changed) (takes-at (states_in old i) inputs j no_state lt h)

  pub many-next : (new : ManyStates) → i < length old.groups → j < length (states_in old i) → new ≡ with_state_of i j (after_value p (value_at inputs j) (state_of now i j)) now → FedMany p inputs old new i (j + 1)
  many-next new within lt is =
      let s : AggregateFunction = after_value p (value_at inputs j) (state_of now i j) in record {
        changed = changed-next old now i j f.changed new s within is;
        fed = rw (changed-here old now i j f.changed new s within is)
            (fed-next p inputs (states_in now i) j no_state s (fed_from p 0 inputs (states_in old i)) (changed-long old now i j f.changed lt) f.fed refl);
      }

  pub many-end : length (states_in old i) ≤ j → now ≡ with_states i (fed_from p 0 inputs (states_in old i)) old
  many-end le = changed-end old now i j f.changed (fed_from p j inputs) (fed_from p 0 inputs (states_in old i)) refl le f.fed

-- none has counted more than before
pub many-few : (n : ℕ) (old now : ManyStates) (i j : ℕ) → ChangedTo old now i j → j < length (states_in old i) → StatesSeen n (states_in old i) → seen (state_of now i j) ≤ n
many-few n old now i j c lt h = omega (arith, ap (λ (s : AggregateFunction). seen s) (changed-one old now i j c), seen-at n (states_in old i) j no_state lt h)

-- ---- fed rows that follow one another

-- those so far are fed theirs
pub record RunMany (chunk row : ℕ) (inputs : List (List AnyValue)) (old now : ManyStates) (i j : ℕ) : Type 0 where
  pub changed : ChangedTo old now i j
  pub fed : take j (states_in now i) ++ run_from chunk row j inputs (drop j (states_in now i)) ≡ run_from chunk row 0 inputs (states_in old i)

pub run-none : (chunk row : ℕ) (inputs : List (List AnyValue)) (m : ManyStates) (i : ℕ) → RunMany chunk row inputs m m i 0
run-none chunk row inputs m i = record { changed = changed-none m i; fed = refl }

module _ (chunk row : ℕ) (inputs : List (List AnyValue)) (old now : ManyStates) (i j : ℕ) (f : RunMany chunk row inputs old now i j) where
  pub run-next : (new : ManyStates) → i < length old.groups → j < length (states_in old i)
      → new ≡ with_state_of i j (after_run after_value chunk row (map (λ r. value_at r j) inputs) (state_of now i j)) now → RunMany chunk row inputs old new i (j + 1)
  run-next new within lt is =
      let s : AggregateFunction = after_run after_value chunk row (map (λ r. value_at r j) inputs) (state_of now i j) in record {
        changed = changed-next old now i j f.changed new s within is;
        fed = rw (changed-here old now i j f.changed new s within is)
            (run-states-next chunk row inputs (states_in now i) j no_state s (run_from chunk row 0 inputs (states_in old i)) (changed-long old now i j f.changed lt) f.fed refl);
      }

  pub run-end : length (states_in old i) ≤ j → now ≡ with_states i (run_from chunk row 0 inputs (states_in old i)) old
  run-end le = changed-end old now i j f.changed (run_from chunk row j inputs) (run_from chunk row 0 inputs (states_in old i)) refl le f.fed
