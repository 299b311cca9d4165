-- One running aggregate of a group among those of all, fed the rows of a run one by one.
use Rattle.std.proofs.Common.{◌≡◌, ◌∙◌, ℕ, ◌+◌, ◌<◌, ◌≤◌, ◌^◌, true, List, length, get_or, set, sym, ap, arith}
use Rattle.std.specs.List.{list_all}
use Rattle.std.proofs.lemmas.List.{get_or-set_same, length-set, set-get_or, set-set}
use Rattle.pipe_columns.specs.Frame.{value_at}
use Rattle.pipe_columns.specs.Row.{Row}
use Rattle.pipe_inputs.specs.ChunkRows.{row_at}
use Rattle.pipe_inputs.specs.RowRuns.{run_values}
use Rattle.pipe_kinds.specs.Columns.{no_state}
use Rattle.pipe_kinds.specs.ManyStates.{ManyStates, state_of, states_in, with_state_of, with_states}
use Rattle.pipe_running.specs.declared.function.AggregateFunction.{AggregateFunction}
use Rattle.pipe_running.specs.Runs.{after_run}
use Rattle.pipe_running.specs.States.{after_value, seen, takes}
use Rattle.pipe_groups.specs.GroupRuns.{keeps_none_of}
use Rattle.pipe_groups.proofs.ManyFacts.{put-own, put-twice, states-put}
use Rattle.pipe_groups.proofs.RunFacts.{fed-end, fed-one, fed-start, FedTo}

abbrev States : Type 0
States = List AggregateFunction

module _ (m : ManyStates) (i j : ℕ) where
  -- one that is put where it stands changes nothing
  one-own : with_state_of i j (state_of m i j) m ≡ m
  one-own = ap (λ (ss : States). with_states i ss m) (set-get_or (states_in m i) j no_state) ∙ put-own m i

  module _ (within : i < length m.groups) where
    -- the last one that is put stands there
    one-twice : (s t : AggregateFunction) → with_state_of i j t (with_state_of i j s m) ≡ with_state_of i j t m
    one-twice s t =
        ap (λ (ss : States). with_states i (set ss j t) (with_state_of i j s m)) (states-put m i (set (states_in m i) j s) within)
        ∙ ap (λ (ss : States). with_states i ss (with_state_of i j s m)) (set-set (states_in m i) j s t) ∙ put-twice m i (set (states_in m i) j s) (set (states_in m i) j t)

    one-put : (s : AggregateFunction) → j < length (states_in m i) → state_of (with_state_of i j s m) i j ≡ s
    one-put s lt = ap (λ (ss : States). get_or ss j no_state) (states-put m i (set (states_in m i) j s) within) ∙ get_or-set_same (states_in m i) j s no_state lt

-- of rows from one on those before a number are fed to one running aggregate, and the others are as before
pub record EachFed (rows : List Row) (chunk row len : ℕ) (old now : ManyStates) (i j at : ℕ) : Type 0 where
  pub others : now ≡ with_state_of i j (state_of now i j) old
  pub fed : FedTo rows chunk row len j (state_of old i j) (state_of now i j) at

pub each-start : (rows : List Row) (chunk row len : ℕ) (m : ManyStates) (i j : ℕ) → keeps_none_of (state_of m i j) (run_values rows row len j) ≡ true
    → list_all (takes (state_of m i j)) (run_values rows row len j) ≡ true → seen (state_of m i j) + len < 2 ^ 32 → EachFed rows chunk row len m m i j row
each-start rows chunk row len m i j plain taken few = record {
  others = sym (one-own m i j);
  fed = fed-start rows chunk row len j (state_of m i j) plain taken few;
}

module _ (rows : List Row) (chunk row len : ℕ) (old now : ManyStates) (i j at : ℕ) (f : EachFed rows chunk row len old now i j at) where
  pub each-count : length now.groups ≡ length old.groups
  each-count = ap (λ (m : ManyStates). length m.groups) f.others ∙ length-set old.groups i (set (states_in old i) j (state_of now i j))

  each-long : i < length old.groups → length (states_in now i) ≡ length (states_in old i)
  each-long within =
      ap (λ (m : ManyStates). length (states_in m i)) f.others ∙ ap (λ (ss : States). length ss) (states-put old i (set (states_in old i) j (state_of now i j)) within)
      ∙ length-set (states_in old i) j (state_of now i j)

  pub each-next : at < row + len → row + len ≤ length rows → i < length old.groups → j < length (states_in old i) → (new : ManyStates)
      → new ≡ with_state_of i j (after_value (record { chunk = chunk; row = at }) (value_at (row_at rows at).inputs j) (state_of now i j)) now → EachFed rows chunk row len old new i j (at + 1)
  each-next lt there within state new is =
      let s : AggregateFunction = after_value (record { chunk = chunk; row = at }) (value_at (row_at rows at).inputs j) (state_of now i j) in
      let one : state_of new i j ≡ s = ap (λ (m : ManyStates). state_of m i j) is ∙ one-put now i j (omega (arith, within, each-count)) s (omega (arith, state, each-long within)) in record {
        others = is ∙ ap (with_state_of i j s) f.others ∙ one-twice old i j within (state_of now i j) s ∙ ap (λ (t : AggregateFunction). with_state_of i j t old) (sym one);
        fed = fed-one rows chunk row len j (state_of old i j) (state_of now i j) at f.fed lt there (state_of new i j) one;
      }

  pub each-end : row + len ≤ at → now ≡ with_state_of i j (after_run after_value chunk row (run_values rows row len j) (state_of old i j)) old
  each-end le = f.others ∙ ap (λ (s : AggregateFunction). with_state_of i j s old) (fed-end rows chunk row len j (state_of old i j) (state_of now i j) at f.fed le)
