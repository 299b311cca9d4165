-- A new group that takes its first row.
use Rattle.std.proofs.Common.{◌≡◌, ◌∙◌, ℕ, ◌-◌, ◌^◌, List, [], ◌∷◌, ◌++◌, length, set, refl, sym, ap}
use Rattle.std.proofs.lemmas.List.{get_or_push}
use Rattle.pipe_columns.specs.declared.any_value.AnyValue.{AnyValue}
use Rattle.pipe_columns.specs.declared.place.Place.{Place}
use Rattle.pipe_running.specs.declared.function.AggregateFunction.{AggregateFunction}
use Rattle.pipe_running.specs.GroupStates.{fresh_states, StatesSeen, TakesFrom}
use Rattle.pipe_running.proofs.StatesHoldFacts.{fresh-hold, hold-seen}
use Rattle.pipe_groups.specs.Groups.{Group, group_of, new_group, no_group, group_with_row}

module _ (ps : List AggregateFunction) (key : List ℕ) (gs pushed : List Group) (i : ℕ) (is : pushed ≡ gs ++ new_group ps key ∷ []) (last : i ≡ length gs) where
  pub last-is : group_of pushed i ≡ new_group ps key
  last-is = ap (λ (xs : List Group). group_of xs i) is ∙ get_or_push gs (new_group ps key) no_group i (sym last)

  -- it has counted nothing, and takes what the prototypes take
  pub last-few : StatesSeen (2 ^ 32 - 2) (group_of pushed i).states
  last-few = rw last-is (hold-seen (2 ^ 32 - 2) ps (fresh_states ps) (fresh-hold (2 ^ 32 - 2) ps))

  pub last-taken : (inputs : List AnyValue) → TakesFrom 0 (fresh_states ps) inputs → TakesFrom 0 (group_of pushed i).states inputs
  last-taken inputs h = rw last-is h

  set-last : (xs : List Group) (x y : Group) → set (xs ++ x ∷ []) (length xs) y ≡ xs ++ y ∷ []
  set-last [] x y = refl
  set-last (z ∷ zs) x y = ap (λ (l : List Group). z ∷ l) (set-last zs x y)

  -- with the row it stands behind the others
  pub last-fed : (p : Place) (inputs : List AnyValue) (new : List Group) → new ≡ set pushed i (group_with_row p inputs (group_of pushed i)) → new ≡ gs ++ group_with_row p inputs (new_group ps key) ∷ []
  last-fed p inputs new e = e ∙ rw (last-is, is, last) (set-last gs (new_group ps key) (group_with_row p inputs (new_group ps key)))
