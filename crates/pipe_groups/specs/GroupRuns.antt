-- Rows of a chunk that follow one another, fed to a group at once.
use Rattle.std.specs.Prelude.{◌≡◌, ◌+◌, ◌&&◌, ◌||◌, ℕ, Bool, true, not, List, [], ◌∷◌, map}
use Rattle.std.specs.List.{list_all}
use Rattle.pipe_columns.specs.declared.any_value.AnyValue.{AnyValue}
use Rattle.pipe_columns.specs.declared.data_type.DataType.{DataType}
use Rattle.pipe_columns.specs.DataType.{is_string}
use Rattle.pipe_columns.specs.Frame.{value_at}
use Rattle.pipe_running.specs.declared.function.AggregateFunction.{AggregateFunction}
use Rattle.pipe_running.specs.GroupStates.{least_with_run, run_from}
use Rattle.pipe_running.specs.Held.{is_text}
pub use Rattle.pipe_kinds.specs.Keeping.{keeps_value}
use Rattle.pipe_groups.specs.Groups.{Group}

-- a group with rows more: the number of their chunk, that of the first one, and their inputs
abbrev pub with_run : ℕ → ℕ → List (List AnyValue) → Group → Group
with_run chunk row inputs g = record {
  key = g.key;
  first = least_with_run chunk row inputs g.first;
  states = run_from chunk row 0 inputs g.states;
}

-- whether it keeps none of some values as a text
abbrev pub keeps_none_of : AggregateFunction → List AnyValue → Bool
keeps_none_of f values = not (keeps_value f) || list_all (λ v. not (is_text v)) values

-- each keeps no text of its inputs in some rows, from the input at position j on
abbrev pub KeepNoneFrom : ℕ → List AggregateFunction → List (List AnyValue) → Type 0
KeepNoneFrom j [] inputs = Unit {0}
KeepNoneFrom j (s ∷ ss) inputs =
    (keeps_none_of s (map (λ row. value_at row j) inputs) ≡ true) × KeepNoneFrom (j + 1) ss inputs

-- whether running aggregates keep no text, whatever inputs of these types they are fed
abbrev pub keep_no_text : List AggregateFunction → List DataType → Bool
keep_no_text [] types = true
keep_no_text (f ∷ fs) [] = true
keep_no_text (f ∷ fs) (t ∷ types) = not (keeps_value f && is_string t) && keep_no_text fs types
