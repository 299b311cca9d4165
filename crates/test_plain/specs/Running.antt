-- A table of running groups: keys in order, each with its running aggregates.
use Rattle.std.specs.Prelude.{◌≡◌, true, ℕ, ◌+◌, ◌<◌, ◌≤◌, List, [], ◌∷◌, ◌++◌, length, map, fold, take, drop, Option, Some, None, unwrap_or}
use Rattle.std.specs.declared.cmp.Ordering.{Ordering}
use Rattle.std.specs.declared.cmp.Ordering.TheVariants.{Less, Equal, Greater}
use Rattle.std.specs.Ordering.{match_ordering}
use Rattle.pipe_columns.specs.declared.any_value.AnyValue.{AnyValue}
use Rattle.pipe_columns.specs.declared.place.Place.{Place}
use Rattle.pipe_columns.specs.Row.{Row}
use Rattle.pipe_running.specs.declared.function.AggregateFunction.{AggregateFunction}
use Rattle.pipe_running.specs.GroupStates.{fed_from, fresh_states, given_all, StatesHold}
use Rattle.pipe_model.specs.Answer.{entry_of, rows_at, tuple_cmp}
use Rattle.test_plain.specs.declared.groups.Group.{Group}
use Rattle.test_plain.specs.declared.groups.Spot.{Spot}
use Rattle.test_plain.specs.declared.groups.Spot.TheVariants as spot

-- a table in order of key, with one more value
abbrev pub add_entry : {K V L : Type 0} → (K → K → Ordering) → (V → L) → (V → L → L) → K × V → List (K × L) → List (K × L)
add_entry order first more r [] = (r.0, first r.1) ∷ []
add_entry order first more r (g ∷ gs) = match_ordering (order r.0 g.0) ((r.0, first r.1) ∷ g ∷ gs) ((g.0, more r.1 g.1) ∷ gs) (g ∷ add_entry order first more r gs)

-- what a table has of a key: where its first row stands, if there was one, and its running aggregates
pub record Line : Type 0 where
  pub first : Option Place
  pub states : List AggregateFunction

-- a line with one more row
abbrev pub fed : Place × List AnyValue → Line → Line
fed v line = record { first = Some (unwrap_or line.first v.0); states = fed_from v.0 0 v.1 line.states }

-- the line of a key before any row
abbrev pub starts : List AggregateFunction → Line
starts prototypes = record { first = None; states = fresh_states prototypes }

-- the line of some rows
abbrev pub line_of : Line → List (Place × List AnyValue) → Line
line_of start entries = fold (λ line v. fed v line) start entries

-- keys, each with its line
abbrev pub Table : Type 0
Table = List (List AnyValue × Line)

-- a table with one more row
abbrev pub with_row : Line → Table → Row → Table
with_row start table r = add_entry tuple_cmp (λ v. fed v start) fed (entry_of r) table

-- a table with rows added one by one
abbrev pub with_rows : Line → Table → List Row → Table
with_rows start table rs = fold (λ t r. with_row start t r) table rs

-- a key with the line of its rows
abbrev pub keyed_line : List AggregateFunction → List Row → List AnyValue → List AnyValue × Line
keyed_line prototypes rs key = (key, line_of (starts prototypes) (rows_at rs key))

-- a group as contracts see it: its key with its line
abbrev pub group_seen : Group → List AnyValue × Line
group_seen g = (g.key.items, record { first = Some g.first; states = g.states.items })

-- the row that a group gives
abbrev pub output_row : List AnyValue × Line → List AnyValue
output_row g = g.0 ++ given_all g.1.states

-- so are those of each group of a table
abbrev pub TableHolds : ℕ → List AggregateFunction → Table → Type 0
TableHolds n prototypes [] = Unit {0}
TableHolds n prototypes (g ∷ gs) = StatesHold n prototypes g.1.states × TableHolds n prototypes gs

-- k is below each key of a table
abbrev pub AllAbove : List AnyValue → Table → Type 0
AllAbove k [] = Unit {0}
AllAbove k (g ∷ gs) = (tuple_cmp k g.0 ≡ Less) × AllAbove k gs

-- the keys of a table ascend
abbrev pub KeysAscend : Table → Type 0
KeysAscend [] = Unit {0}
KeysAscend (g ∷ gs) = AllAbove g.0 gs × KeysAscend gs

-- each key of a table is below k
abbrev pub AllBelow : List AnyValue → Table → Type 0
AllBelow k [] = Unit {0}
AllBelow k (g ∷ gs) = (tuple_cmp k g.0 ≡ Greater) × AllBelow k gs

-- a table begins with the group of k
abbrev pub BeginsAt : List AnyValue → Table → Type 0
BeginsAt k [] = ⊥
BeginsAt k (g ∷ gs) = tuple_cmp k g.0 ≡ Equal

-- where the group of k is, or where it belongs
abbrev pub IsSpot : List AnyValue → Table → Spot → Type 0
IsSpot k table (spot.At i) = (i < length table) × AllBelow k (take i table) × BeginsAt k (drop i table)
IsSpot k table (spot.Before i) = (i ≤ length table) × AllBelow k (take i table) × AllAbove k (drop i table)
