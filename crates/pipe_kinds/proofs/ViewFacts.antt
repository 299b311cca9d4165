-- The states of all groups, between their columns and what contracts see.
use Rattle.std.specs.List.{All}
use Rattle.std.proofs.Common.{◌≡◌, ◌∙◌, ◌+◌, ◌-◌, ◌<◌, ℕ, false, List, length, map, get_or, set, ap, sym, subst, arith}
use Rattle.std.proofs.lemmas.List.{length-map}
use Rattle.pipe_running.specs.declared.function.AggregateFunction.{AggregateFunction}
use Rattle.pipe_running.specs.GroupStates.{joined_states}
use Rattle.pipe_kinds.specs.Columns.{ColumnStates, no_state, pushed, state_at, with_state}
use Rattle.pipe_kinds.specs.Keeping.{keeps_value}
use Rattle.pipe_kinds.specs.ManyStates.{ManyStates, state_of, states_in, with_fresh, with_state_of, with_states}
use Rattle.pipe_kinds.specs.Stored.{AreStored, emptied_at, fresh_in, HaveRoom, joined_first, row_in, seen_in}
use Rattle.pipe_kinds.proofs.JoinFacts.{as-many, seen-emptied, seen-joined, stored-joined}
use Rattle.pipe_kinds.proofs.RowFacts.{cell-at, KeepsNone, length-rows, none-in-rows, row-at, seen-pushed, seen-set}
use Rattle.pipe_kinds.proofs.StoredFacts.{room-less, stored-pushed, stored-set}

module _ (cs : List ColumnStates) (n room : ℕ) (m : ManyStates) (view : seen_in cs n room ≡ m) (stored : AreStored cs n room) where
  -- there are so many groups
  pub count-is : n ≡ length m.groups
  count-is = sym (length-rows cs 0 n) ∙ ap (λ (x : ManyStates). length x.groups) view

  -- and so many columns
  pub width-is : length cs ≡ length m.fresh
  width-is = sym (length-map cs (λ (x : ColumnStates). x.fresh)) ∙ ap (λ (x : ManyStates). length x.fresh) view

  pub group-within : (g : ℕ) → g < length m.groups → g < n
  group-within g lt = omega (arith, lt, count-is)

  pub column-there : (j : ℕ) → j < length m.fresh → j < length cs
  column-there j lt = omega (arith, lt, width-is)

  -- the states of a group
  pub row-is : (g : ℕ) → g < length m.groups → row_in cs g ≡ states_in m g
  row-is g lt = sym (row-at cs n g (group-within g lt)) ∙ ap (λ (x : ManyStates). states_in x g) view

  -- each group has the width
  pub all-wide : (g : ℕ) → g < length m.groups → length (states_in m g) ≡ length m.fresh
  all-wide g lt = ap length (sym (row-is g lt)) ∙ length-map cs (λ (x : ColumnStates). state_at x.states g) ∙ width-is

  -- ---- one state

  module _ (g j : ℕ) (c : ColumnStates) (group : g < length m.groups) (column : j < length m.fresh) (is : c ≡ get_or cs j c) where
    pub column-high : g < length c.states
    column-high =
        let high : length (get_or cs j c).states ≡ n = stored.heights j c (column-there j column) in
        omega (arith, high, ap (λ (x : ColumnStates). length x.states) is, group-within g group)

    pub cell-is : state_at c.states g ≡ state_of m g j
    cell-is = sym (cell-at cs j g c (column-there j column) is) ∙ ap (λ (row : List AggregateFunction). get_or row j no_state) (row-is g group)

    -- with another one in its place
    module _ (F : AggregateFunction → AggregateFunction) (new : ColumnStates) (made : new ≡ with_state g (F (state_at c.states g)) c) where
      pub put-stored : AreStored (set cs j new) n room
      put-stored =
          subst (λ (x : ColumnStates). AreStored (set cs j x) n room) (sym made) (stored-set cs n room g j c (F (state_at c.states g)) (column-there j column) is stored)

      pub put-seen : seen_in (set cs j new) n room ≡ with_state_of g j (F (state_of m g j)) m
      put-seen =
          let high : length c.states ≡ n = ap (λ (x : ColumnStates). length x.states) is ∙ stored.heights j c (column-there j column) in
          ap (λ (x : ColumnStates). seen_in (set cs j x) n room) made
          ∙ seen-set cs n g j c (F (state_at c.states g)) (group-within g group) (column-there j column) is high room
          ∙ (λ k. with_state_of g j (F (cell-is k)) (view k))

  -- ---- values that are kept

  -- where the states of a column keep none, other group's does
  pub none-kept : (j : ℕ) → ((d : ColumnStates) → j < length cs → KeepsNone (get_or cs j d)) → (g : ℕ) → keeps_value (state_of m g j) ≡ false
  none-kept j none g = subst (λ (x : ManyStates). keeps_value (state_of x g j) ≡ false) view (none-in-rows cs n j none g)

  -- ---- columns that are joined

  pub all-high : (g : ℕ) → g < length m.groups → All (λ (c : ColumnStates). g < length c.states) cs
  all-high g lt = λ k d there. let high : length (get_or cs k d).states ≡ n = stored.heights k d there in omega (arith, high, group-within g lt)

  pub fresh-is : fresh_in cs ≡ m.fresh
  fresh-is = ap (λ (x : ManyStates). x.fresh) view

  -- there is room for a group in each column, where there is
  pub room-for-one : 0 < m.room → HaveRoom 1 cs
  room-for-one some = room-less 1 room (omega (arith, some, ap (λ (x : ManyStates). x.room) view)) cs stored.rooms

  pub pushed-stored : 0 < m.room → AreStored (map pushed cs) (n + 1) (room - 1)
  pushed-stored some = stored-pushed cs n room (omega (arith, some, ap (λ (x : ManyStates). x.room) view)) stored

  pub pushed-seen : seen_in (map pushed cs) (n + 1) (room - 1) ≡ with_fresh m
  pushed-seen = seen-pushed cs n room stored.heights ∙ ap with_fresh view

  -- ---- groups that are joined

  module _ (os : List ColumnStates) (on other-room : ℕ) (o : ManyStates) (other-view : seen_in os on other-room ≡ o) (other-stored : AreStored os on other-room)
      (g from : ℕ) (within : g < length m.groups) (kinds : o.fresh ≡ m.fresh) where
    pub same-kinds : fresh_in os ≡ fresh_in cs
    same-kinds = ap (λ (x : ManyStates). x.fresh) other-view ∙ kinds ∙ sym fresh-is

    pub joined-stored : AreStored (joined_first g from (length cs) os cs) n room
    joined-stored = stored-joined g from n room (length cs) os cs stored

    pub joined-seen : row_in os from ≡ states_in o from → seen_in (joined_first g from (length cs) os cs) n room ≡ with_states g (joined_states (states_in m g) (states_in o from)) m
    joined-seen row =
        seen-joined g from n room os cs (group-within g within) (as-many os cs same-kinds) stored.heights
        ∙ (λ k. with_states g (joined_states (row-is g within k) (row k)) (view k))

  module _ (g : ℕ) (within : g < length m.groups) where
    pub emptied-seen : seen_in (map (emptied_at g) cs) n room ≡ with_states g m.fresh m
    emptied-seen = seen-emptied g n room cs (group-within g within) stored.heights ∙ (λ k. with_states g (fresh-is k) (view k))
