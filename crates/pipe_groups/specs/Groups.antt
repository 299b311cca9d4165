-- What a table keeps of rows: groups.
use Rattle.std.specs.Prelude.{◌≡◌, ◌*◌, ◌≤◌, ℕ, Bool, false, List, [], ◌∷◌, ◌++◌, map, filter, length, slice_index_or, Option, Some, None, is_some, unwrap_or, if◌then◌else◌, sum_by}
use Rattle.std.specs.List.{All, list_any}
use Rattle.std.specs.Str.{bytes_eq}
use Rattle.pipe_columns.specs.declared.any_value.AnyValue.{AnyValue}
use Rattle.pipe_columns.specs.declared.place.Place.{Place}
use Rattle.pipe_columns.specs.Place.{place_cmp}
use Rattle.pipe_running.specs.declared.function.AggregateFunction.{AggregateFunction}
use Rattle.pipe_running.specs.GroupStates.{fed_from, fresh_states, joined_states}
use Rattle.pipe_running.specs.Pick.{nearer, nearest}
pub use Rattle.pipe_kinds.specs.ManyStates.{AreJoinable}
use Rattle.pipe_groups.specs.Shape.{Shape}

-- the code of a key, the least place of its rows, none where it has none, and its running aggregates
pub record Group : Type 0 where
  pub key : List ℕ
  pub first : Option Place
  pub states : List AggregateFunction

-- how many more groups, running aggregates and bytes of keys there is memory for
pub record Room : Type 0 where
  pub groups : ℕ
  pub states : ℕ
  pub bytes : ℕ

-- what groups are of, the groups in the order in which their keys came, and the room for more
pub record Seen : Type 0 where
  pub shape : Shape
  pub groups : List Group
  pub room : Room

-- ---- one group

-- a group of no rows
abbrev pub new_group : List AggregateFunction → List ℕ → Group
new_group prototypes key = record { key = key; first = None; states = fresh_states prototypes }

-- a group with one more row
abbrev pub group_with_row : Place → List AnyValue → Group → Group
group_with_row p inputs g = record {
  key = g.key;
  first = Some (nearer place_cmp p g.first);
  states = fed_from p 0 inputs g.states;
}

-- a group with the rows of another
abbrev pub with_group : Group → Group → Group
with_group other g = record {
  key = g.key;
  first = nearest place_cmp other.first g.first;
  states = joined_states g.states other.states;
}

-- whether a group holds a row
abbrev pub has_rows : Group → Bool
has_rows g = is_some g.first

-- ---- many

-- what stands for a group past the last
abbrev pub no_group : Group
no_group = record { key = []; first = None; states = [] }

-- the group at an index
abbrev pub group_of : List Group → ℕ → Group
group_of gs i = slice_index_or gs i no_group

-- the keys of groups
abbrev pub group_keys : List Group → List (List ℕ)
group_keys gs = map (λ g. g.key) gs

-- whether there is a group of a key, with or without rows
abbrev pub is_covered : List ℕ → List Group → Bool
is_covered k gs = list_any (bytes_eq k) (group_keys gs)

-- the group of a key, where it holds a row
abbrev pub held_at : List ℕ → List Group → Option Group
held_at k [] = None
held_at k (g ∷ gs) =
    if bytes_eq k g.key then (if has_rows g then Some g else None) else held_at k gs

-- whether a row of a key is held
abbrev pub is_held : List ℕ → List Group → Bool
is_held k gs = is_some (held_at k gs)

-- the groups that hold rows
abbrev pub held_groups : List Group → List Group
held_groups gs = filter has_rows gs

-- each group without rows has the running aggregates of none
abbrev pub RowlessAreFresh : List AggregateFunction → List Group → Type 0
RowlessAreFresh prototypes gs =
    All (λ g. has_rows g ≡ false → g.states ≡ fresh_states prototypes) gs

-- how many keys hold a row
abbrev pub count_held : List Group → ℕ
count_held gs = length (held_groups gs)

-- how many bytes the held keys have
abbrev pub held_bytes : List Group → ℕ
held_bytes gs = sum_by (λ g. length g.key) (held_groups gs)

-- how many bytes all keys have
abbrev pub all_bytes : List Group → ℕ
all_bytes gs = sum_by (λ g. length g.key) gs

-- groups with one more row of a key
abbrev pub put : List AggregateFunction → List ℕ → Place → List AnyValue → List Group → List Group
put prototypes k p inputs [] = group_with_row p inputs (new_group prototypes k) ∷ []
put prototypes k p inputs (g ∷ gs) =
    if bytes_eq k g.key then group_with_row p inputs g ∷ gs else g ∷ put prototypes k p inputs gs

-- groups with a group for a key, of no rows where there was none
abbrev pub cover : List AggregateFunction → List ℕ → List Group → List Group
cover prototypes k gs = if is_covered k gs then gs else gs ++ new_group prototypes k ∷ []

-- what is held of a key together: of one group, of another, or of both
abbrev pub with_held : List AggregateFunction → Option Group → Option Group → Option Group
with_held prototypes None held = held
with_held prototypes (Some other) held =
    Some (with_group other (unwrap_or held (new_group prototypes other.key)))

-- groups hold what two others hold together
abbrev pub AreJoined : List AggregateFunction → List Group → List Group → List Group → Type 0
AreJoined prototypes gs others joined =
    (k : List ℕ) → held_at k joined ≡ with_held prototypes (held_at k others) (held_at k gs)

-- ---- what a call leaves

-- these groups, of the same shape, with whatever room
abbrev pub HasGroups : Seen → Seen → List Group → Type 0
HasGroups old new gs = (new.groups ≡ gs) × (new.shape ≡ old.shape)

-- there is memory for so many more groups, with so many bytes of keys in all
abbrev pub Covers : Seen → ℕ → ℕ → Type 0
Covers t groups bytes =
    (groups ≤ t.room.groups) × (groups * length t.shape.prototypes ≤ t.room.states)
    × (bytes ≤ t.room.bytes)

-- no room is lost
abbrev pub KeepsRoom : Seen → Seen → Type 0
KeepsRoom old new = (groups bytes : ℕ) → Covers old groups bytes → Covers new groups bytes
