-- The key columns that a word names.
use Rattle.std.specs.Prelude.{ℕ, ◌||◌, ◌==◌, nat_eq, Bool, false, List, [], ◌∷◌, length, take, bytes_eq, Option, Some, None, option_map, option_and_then, if◌then◌else◌}
use Rattle.std.specs.List.{list_any, position}
use Rattle.serde_json.specs.Data.{Data, Items, no_items, item}
use Rattle.serde_json.specs.Find.{as_array, as_str}
use Rattle.serde_json.specs.Read.{read}
use Rattle.pipe_columns.specs.declared.schema.Field.{Field}
use Rattle.pipe_model.specs.Output.{output_schema}
use Rattle.pipe_model.specs.Query.{QueryTree}

-- the fields of the key columns that a query puts out
abbrev pub key_fields : QueryTree → List Field
key_fields q = take (length q.keys) (output_schema q)

-- the position of the field whose name a JSON value is
abbrev pub position_named : List Field → Data → Option ℕ
position_named fields d =
    option_and_then (λ name. position (λ f. bytes_eq f.name name) fields) (as_str d)

-- the positions of the fields whose names the items of a list are
abbrev pub positions_named : List Field → Items → Option (List ℕ)
positions_named fields no_items = Some []
positions_named fields (item d ds) =
    option_and_then (λ i. option_map (λ is. i ∷ is) (positions_named fields ds))
    (position_named fields d)

-- whether a number stands twice
abbrev pub has_twice : List ℕ → Bool
has_twice [] = false
has_twice (n ∷ ns) = list_any (λ m. nat_eq n m) ns || has_twice ns

-- numbers, one at least and none twice
abbrev pub some_distinct : List ℕ → Option (List ℕ)
some_distinct ns = if length ns == 0 || has_twice ns then None else Some ns

-- the positions of the fields whose names a JSON list is of, one at least and none twice
abbrev pub positions_in : List Field → Option Data → Option (List ℕ)
positions_in fields json =
    option_and_then some_distinct
    (option_and_then (positions_named fields) (option_and_then as_array json))

-- the positions of the key columns that a word names as such a list
abbrev pub kept_positions : QueryTree → List ℕ → Option (List ℕ)
kept_positions q word = positions_in (key_fields q) (read word)
