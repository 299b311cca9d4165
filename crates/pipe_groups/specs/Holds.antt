-- Which rows groups hold.
use Rattle.std.specs.Prelude.{◌≡◌, ◌+◌, ◌<◌, ◌^◌, ℕ, List, [], map, filter, length, Option, Some, None}
use Rattle.std.specs.Str.{bytes_eq}
use Rattle.pipe_columns.specs.declared.any_value.AnyValue.{AnyValue}
use Rattle.pipe_columns.specs.declared.place.Place.{Place}
use Rattle.pipe_running.specs.declared.function.AggregateFunction.{AggregateFunction}
use Rattle.pipe_running.specs.GroupStates.{GroupStands}
use Rattle.pipe_spill.specs.SpillRow.{AreRows}
use Rattle.pipe_spill.specs.declared.spill_row.SpillRow.{SpillRow}
use Rattle.pipe_groups.specs.Groups.{Group, held_at}
use Rattle.pipe_groups.specs.Shape.{Shape}

-- the rows of a key
abbrev pub of_key : List ℕ → List SpillRow → List SpillRow
of_key k rows = filter (λ r. bytes_eq k r.key) rows

-- the places and inputs of rows
abbrev pub entries_of : List SpillRow → List (Place × List AnyValue)
entries_of rows = map (λ r. (r.place, r.values)) rows

-- what is held of a key stands for rows: nothing for none, and else their least place and running
-- aggregates of the prototypes' kinds that stand for their inputs
abbrev pub FoundStands : List AggregateFunction → Option Group → List SpillRow → Type 0
FoundStands prototypes None rows = rows ≡ []
FoundStands prototypes (Some g) rows = GroupStands prototypes g.first g.states (entries_of rows)

-- groups hold rows: at each key, what is held stands for the rows of the key
pub record Holds (prototypes : List AggregateFunction) (gs : List Group) (rows : List SpillRow)
    : Type 0 where
  pub at : (k : List ℕ) → FoundStands prototypes (held_at k gs) (of_key k rows)

-- groups hold some rows of a shape, which with so many more number fewer than 2^32
pub record HoldFewer (s : Shape) (gs : List Group) (more : ℕ) : Type 0 where
  pub rows : List SpillRow
  pub holds : Holds s.prototypes gs rows
  pub typed : AreRows s.key_types s.input_types rows
  pub few : length rows + more < 2 ^ 32
