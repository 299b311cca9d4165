-- Tables with a limit on new keys, and the partitions of their keys.
use Rattle.std.specs.Prelude.{◌%◌, ◌==◌, ℕ, Bool, false, List, fold, nat_lt, Option, Some, None, filter}
use Rattle.std.specs.List.{list_all}
use Rattle.pipe_columns.specs.Key.{fold_bytes}
use Rattle.pipe_columns.specs.declared.any_value.AnyValue.{AnyValue}
use Rattle.pipe_columns.specs.declared.place.Place.{Place}
use Rattle.pipe_running.specs.declared.function.AggregateFunction.{AggregateFunction}
use Rattle.pipe_spill.specs.declared.spill_row.SpillRow.{SpillRow}
use Rattle.pipe_groups.specs.Groups.{count_held, cover, Group, held_groups}
use Rattle.pipe_keyed.specs.Tables.{Table}

-- whether more keys are held than a limit allows for a new one to come
abbrev pub passes : ℕ → Option ℕ → Bool
passes held None = false
passes held (Some limit) = nat_lt limit held

-- whether a table takes no new key
abbrev pub is_full : Table → Bool
is_full t = passes (count_held t.groups) t.limit

-- the row of a place, of a key's code and of inputs
abbrev pub taken_row : Place → List ℕ → List AnyValue → SpillRow
taken_row place key values = record { place = place; key = key; values = values }

-- groups with room for the key of each row
abbrev pub cover_rows : List AggregateFunction → List SpillRow → List Group → List Group
cover_rows prototypes rows gs = fold (λ gs r. cover prototypes r.key gs) gs rows

-- whether a key lies in partition p, out of so many
abbrev pub lies_in : ℕ → ℕ → List ℕ → Bool
lies_in partitions p k = fold_bytes k % partitions == p

-- the groups of a partition
abbrev pub groups_in : ℕ → ℕ → List Group → List Group
groups_in partitions p gs = filter (λ g. lies_in partitions p g.key) gs

-- whether all keys that are held lie in partition p
abbrev pub do_all_lie : ℕ → ℕ → List Group → Bool
do_all_lie partitions p gs = list_all (λ g. lies_in partitions p g.key) (held_groups gs)
