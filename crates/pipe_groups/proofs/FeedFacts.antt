-- Groups that hold few rows: how many values their running aggregates have counted, and what these take.
use Rattle.std.proofs.Common.{◌≡◌, ℕ, ◌+◌, ◌-◌, ◌<◌, ◌≤◌, ◌^◌, Bool, true, false, if◌then◌else◌, List, [], ◌∷◌, ◌++◌, length, Some, None, refl, arith}
use Rattle.std.specs.List.{All, IsDistinct}
use Rattle.std.specs.Str.{bytes_eq}
use Rattle.std.proofs.lemmas.List.{length-map}
use Rattle.std.proofs.lemmas.List.Elements.{All-from_get_or, All-get_or, All-push, All-weaker}
use Rattle.std.proofs.lemmas.List.Sums.{count_by-le-length, length-filter}
use Rattle.pipe_columns.specs.declared.any_value.AnyValue.{AnyValue}
use Rattle.pipe_columns.specs.declared.place.Place.{Place}
use Rattle.pipe_running.specs.declared.function.AggregateFunction.{AggregateFunction}
use Rattle.pipe_running.specs.GroupStates.{fresh_states, StatesHold, StatesSeen, TakesFrom}
use Rattle.pipe_running.proofs.GroupStateFacts.{group-holds}
use Rattle.pipe_running.proofs.StatesHoldFacts.{fresh-hold, hold-seen, hold-takes, states-weaker}
use Rattle.pipe_spill.specs.SpillRow.{IsRow}
use Rattle.pipe_spill.specs.declared.spill_row.SpillRow.{SpillRow}
use Rattle.pipe_groups.specs.Groups.{Group, group_of, has_rows, group_keys, new_group, no_group, RowlessAreFresh}
use Rattle.pipe_groups.specs.Holds.{entries_of, FoundStands, HoldFewer, Holds, of_key}
use Rattle.pipe_groups.specs.Shape.{IsShape, Shape}
use Rattle.pipe_groups.proofs.PutFacts.{held_at-at}
use Rattle.pipe_groups.proofs.ShapeFacts.{shape-takes}

-- a key has no more rows than there are
pub few-of_key : (k : List ℕ) (rows : List SpillRow) → length (entries_of (of_key k rows)) ≤ length rows
few-of_key k rows =
    let here : SpillRow → Bool = λ r. bytes_eq k r.key in
    let entry : SpillRow → Place × List AnyValue = λ r. (r.place, r.values) in
    omega (arith, length-map (of_key k rows) entry, length-filter here rows, count_by-le-length here rows)

module _ (ps : List AggregateFunction) where
  -- what is known of the group at an index: it stands for the rows of its key, and is fresh where it has none
  found-counted : (g : Group) (b : Bool) (rows : List SpillRow) → (b ≡ false → g.states ≡ fresh_states ps) → FoundStands ps (if b then Some g else None) (of_key g.key rows)
      → StatesHold (length rows) ps g.states
  found-counted g true rows fresh h =
      states-weaker (length (entries_of (of_key g.key rows))) (length rows) ps g.states (few-of_key g.key rows) (group-holds ps g.states g.first (entries_of (of_key g.key rows)) h)
  found-counted g false rows fresh h = rw (fresh refl) (fresh-hold (length rows) ps)

  -- no running aggregate has counted more values than there are rows
  pub holds-counted : (gs : List Group) (rows : List SpillRow) → IsDistinct bytes_eq (group_keys gs) → RowlessAreFresh ps gs → Holds ps gs rows → All (λ g. StatesHold (length rows) ps g.states) gs
  holds-counted gs rows apart fresh h =
      All-from_get_or (λ g. StatesHold (length rows) ps g.states) gs no_group (λ i lt.
      let g = group_of gs i in
      found-counted g (has_rows g) rows (All-get_or (λ x. has_rows x ≡ false → x.states ≡ fresh_states ps) gs i no_group lt fresh) (rw (held_at-at g.key gs i apart lt refl) at (h.at g.key)))

-- nor as many as leave no place for so many more
pub few-counted : (s : Shape) (gs : List Group) (n : ℕ) → IsDistinct bytes_eq (group_keys gs) → RowlessAreFresh s.prototypes gs → HoldFewer s gs n
    → All (λ g. StatesHold (2 ^ 32 - 1 - n) s.prototypes g.states) gs
few-counted s gs n apart fresh h =
    let rows = h.rows in
    let few : length rows + n < 2 ^ 32 = h.few in
    All-weaker (λ g. StatesHold (length rows) s.prototypes g.states) (λ g. StatesHold (2 ^ 32 - 1 - n) s.prototypes g.states)
    (λ g. states-weaker (length rows) (2 ^ 32 - 1 - n) s.prototypes g.states (omega (arith, few))) gs (holds-counted s.prototypes gs rows apart fresh h.holds)

-- running aggregates that hold so few take the inputs of a row
pub row-taken : (s : Shape) (n : ℕ) (states : List AggregateFunction) (r : SpillRow) → IsShape s → IsRow s.key_types s.input_types r → StatesHold n s.prototypes states → TakesFrom 0 states r.values
row-taken s n states r shape typed h = hold-takes n 0 r.values s.prototypes states h (shape-takes s r.values shape typed.inputs.of_types)

-- a new group behind others holds as few
pub counted-pushed : (ps : List AggregateFunction) (n : ℕ) (gs : List Group) (k : List ℕ) → All (λ g. StatesHold n ps g.states) gs → All (λ g. StatesHold n ps g.states) (gs ++ new_group ps k ∷ [])
counted-pushed ps n gs k h = All-push (λ g. StatesHold n ps g.states) gs (new_group ps k) h (fresh-hold n ps)

-- what a feed of the group at an index needs
pub few-feed : (s : Shape) (gs : List Group) (i : ℕ) (r : SpillRow) → IsShape s → IsRow s.key_types s.input_types r → i < length gs → All (λ g. StatesHold (2 ^ 32 - 2) s.prototypes g.states) gs
    → StatesSeen (2 ^ 32 - 2) (group_of gs i).states × TakesFrom 0 (group_of gs i).states r.values
few-feed s gs i r shape typed lt h =
    let held = All-get_or (λ g. StatesHold (2 ^ 32 - 2) s.prototypes g.states) gs i no_group lt h in
    (hold-seen (2 ^ 32 - 2) s.prototypes (group_of gs i).states held, row-taken s (2 ^ 32 - 2) (group_of gs i).states r shape typed held)
