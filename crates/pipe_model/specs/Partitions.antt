-- The rows of a partition, and their groups.
use Rattle.std.specs.Prelude.{ℕ, ◌==◌, List, filter}
use Rattle.pipe_columns.specs.declared.any_value.AnyValue.{AnyValue}
use Rattle.pipe_columns.specs.Groups.{sorted_keys}
use Rattle.pipe_columns.specs.Key.{partition}
use Rattle.pipe_columns.specs.Row.{Row}
use Rattle.pipe_model.specs.Output.{key_types}
use Rattle.pipe_model.specs.Answer.{tuple_cmp}
use Rattle.pipe_model.specs.Query.{QueryTree}
use Rattle.pipe_model.specs.Rows.{keys_of}

-- the rows whose key lies in partition p, out of so many
abbrev pub rows_in : ℕ → QueryTree → ℕ → List Row → List Row
rows_in partitions q p rs = filter (λ r. partition partitions (key_types q) r.key == p) rs

-- the distinct keys of these rows, in the order of tuples
abbrev pub groups_in : ℕ → QueryTree → ℕ → List Row → List (List AnyValue)
groups_in partitions q p rs = sorted_keys tuple_cmp (keys_of (rows_in partitions q p rs))
