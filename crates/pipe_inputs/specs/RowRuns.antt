-- Rows of a chunk that follow one another.
use Rattle.std.specs.Prelude.{ℕ, List, map, take, drop}
use Rattle.pipe_columns.specs.declared.any_value.AnyValue.{AnyValue}
use Rattle.pipe_columns.specs.Frame.{value_at}
use Rattle.pipe_columns.specs.Row.{Row}

-- the inputs of so many rows from one on
abbrev pub run_inputs : List Row → ℕ → ℕ → List (List AnyValue)
run_inputs rows row len = map (λ r. r.inputs) (take len (drop row rows))

-- of each the one at a position
abbrev pub run_values : List Row → ℕ → ℕ → ℕ → List AnyValue
run_values rows row len j = map (λ inputs. value_at inputs j) (run_inputs rows row len)
