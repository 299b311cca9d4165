-- The running aggregates of a group: one for each prototype, each fed its own input.
use Rattle.std.specs.Prelude.{◌≡◌, ℕ, ◌+◌, ◌≤◌, true, List, [], ◌∷◌, map, Option, Some}
use Rattle.std.specs.List.{flat_map}
use Rattle.pipe_columns.specs.declared.any_value.AnyValue.{AnyValue}
use Rattle.pipe_columns.specs.declared.data_type.DataType.{DataType}
use Rattle.pipe_columns.specs.declared.place.Place.{Place}
use Rattle.pipe_columns.specs.declared.schema.Field.{Field}
use Rattle.pipe_columns.specs.AnyValue.{fits}
use Rattle.pipe_columns.specs.Frame.{value_at}
use Rattle.pipe_columns.specs.Place.{place_cmp}
use Rattle.pipe_model.specs.Aggregate.{agg}
use Rattle.pipe_model.specs.Answer.{inputs_at}
use Rattle.pipe_model.specs.Kind.{Kind}
use Rattle.pipe_model.specs.Least.{HoldsLeast}
use Rattle.pipe_model.specs.Output.{input_type}
use Rattle.pipe_model.specs.Query.{AggTree}
use Rattle.pipe_running.specs.declared.function.AggregateFunction.{AggregateFunction}
use Rattle.pipe_running.specs.Pick.{nearer}
use Rattle.pipe_running.specs.Runs.{after_run}
use Rattle.pipe_running.specs.SameKind.{SameKind}
use Rattle.pipe_running.specs.Stands.{Stands, Suits}
use Rattle.pipe_running.specs.States.{after_value, fresh, given, joined, kind_of, output_values, seen, takes}

-- ---- what becomes of them

-- before any row
abbrev pub fresh_states : List AggregateFunction → List AggregateFunction
fresh_states prototypes = map fresh prototypes

-- with one more row, from its input at position j on
abbrev pub fed_from : Place → ℕ → List AnyValue → List AggregateFunction → List AggregateFunction
fed_from p j inputs [] = []
fed_from p j inputs (s ∷ ss) = after_value p (value_at inputs j) s ∷ fed_from p (j + 1) inputs ss

-- with the inputs of rows of a chunk that follow one another, from position j on
abbrev pub run_from :
    ℕ → ℕ → ℕ → List (List AnyValue) → List AggregateFunction → List AggregateFunction
run_from chunk row j rows [] = []
run_from chunk row j rows (s ∷ ss) =
    after_run after_value chunk row (map (λ inputs. value_at inputs j) rows) s
    ∷ run_from chunk row (j + 1) rows ss

-- with those of another group
abbrev pub joined_states : List AggregateFunction → List AggregateFunction → List AggregateFunction
joined_states [] ts = []
joined_states (s ∷ ss) [] = s ∷ ss
joined_states (s ∷ ss) (t ∷ ts) = joined s t ∷ joined_states ss ts

-- what they give, a value for each of their output columns
abbrev pub given_all : List AggregateFunction → List AnyValue
given_all states = flat_map (λ s. output_values (given s)) states

-- the least place with that of the first row of a run, if it has one
abbrev pub least_with_run : ℕ → ℕ → List (List AnyValue) → Option Place → Option Place
least_with_run chunk row [] first = first
least_with_run chunk row (r ∷ rs) first =
    Some (nearer place_cmp (record { chunk = chunk; row = row }) first)

-- ---- what a row needs

-- no running aggregate has counted more than n values
abbrev pub StatesSeen : ℕ → List AggregateFunction → Type 0
StatesSeen n [] = Unit {0}
StatesSeen n (s ∷ ss) = (seen s ≤ n) × StatesSeen n ss

-- each running aggregate takes its input, from the one at position j on
abbrev pub TakesFrom : ℕ → List AggregateFunction → List AnyValue → Type 0
TakesFrom j [] inputs = Unit {0}
TakesFrom j (s ∷ ss) inputs =
    (takes s (value_at inputs j) ≡ true) × TakesFrom (j + 1) ss inputs

-- a running aggregate has counted at most n values, and takes what its prototype takes
abbrev pub IsLike : ℕ → AggregateFunction → AggregateFunction → Type 0
IsLike n prototype s = (seen s ≤ n) × ((v : AnyValue) → takes s v ≡ takes prototype v)

-- so is each of some, one for each prototype
abbrev pub StatesHold : ℕ → List AggregateFunction → List AggregateFunction → Type 0
StatesHold n [] [] = Unit {0}
StatesHold n [] (s ∷ ss) = ⊥
StatesHold n (f ∷ fs) [] = ⊥
StatesHold n (f ∷ fs) (s ∷ ss) = IsLike n f s × StatesHold n fs ss

-- ---- what they stand for

-- each is of its prototype's kind, one for each prototype
abbrev pub SameKinds : List AggregateFunction → List AggregateFunction → Type 0
SameKinds [] [] = Unit {0}
SameKinds [] (s ∷ ss) = ⊥
SameKinds (f ∷ fs) [] = ⊥
SameKinds (f ∷ fs) (s ∷ ss) = SameKind f s × SameKinds fs ss

-- each stands for its input in some rows, from the input at position j on
abbrev pub StandFrom : ℕ → List AggregateFunction → List (Place × List AnyValue) → Type 0
StandFrom j [] entries = Unit {0}
StandFrom j (s ∷ ss) entries = Stands s (inputs_at j entries) × StandFrom (j + 1) ss entries

-- what a group keeps of some rows: running aggregates of the prototypes' kinds that stand for their
-- inputs, and the least place, none for no rows
pub record GroupStands (prototypes : List AggregateFunction) (first : Option Place)
    (states : List AggregateFunction) (entries : List (Place × List AnyValue)) : Type 0 where
  pub kinds : SameKinds prototypes states
  pub stand : StandFrom 0 states entries
  pub least : HoldsLeast place_cmp first (map (λ e. e.0) entries)

-- ---- what they are for

-- a running aggregate serves a kind over values of a type: it is one of such values and takes them,
-- and what it gives is what the kind gives
pub record Serves (f : AggregateFunction) (k : Kind) (t : DataType) : Type 0 where
  pub suits : Suits f t
  pub takes : (v : AnyValue) → fits v t ≡ true → takes f v ≡ true
  pub gives : (entries : List (Place × AnyValue)) → agg (kind_of f) t entries ≡ agg k t entries

-- prototypes serve the aggregates of a query, one to one
abbrev pub ServeAll : List Field → List AggTree → List AggregateFunction → Type 0
ServeAll schema [] [] = Unit {0}
ServeAll schema [] (f ∷ fs) = ⊥
ServeAll schema (a ∷ others) [] = ⊥
ServeAll schema (a ∷ others) (f ∷ fs) =
    Serves f a.kind (input_type schema a.input) × ServeAll schema others fs

-- the inputs of a row fit what the aggregates are fed, from the input at position j on
abbrev pub FitsFrom : ℕ → List Field → List AggTree → List AnyValue → Type 0
FitsFrom j schema [] inputs = Unit {0}
FitsFrom j schema (a ∷ others) inputs =
    (fits (value_at inputs j) (input_type schema a.input) ≡ true)
    × FitsFrom (j + 1) schema others inputs
