-- The query that a JSON value is.
use Rattle.std.specs.Prelude.{◌==◌, ◌+◌, ℕ, ℤ, Bool, false, List, [], ◌∷◌, length, codes, if◌then◌else◌, Option, Some, None, option_map, option_and_then, is_some}
use Rattle.serde_json.specs.Data.{Data, Items, no_items, item}
use Rattle.serde_json.specs.Find.{as_array, as_bool, as_i64, as_null, as_number, as_str, as_u64, get}
use Rattle.pipe_columns.specs.declared.schema.Field.{Field}
use Rattle.pipe_model.specs.Expr.{Expr}
use Rattle.pipe_model.specs.Query.{WrittenQuery}
use Rattle.pipe_query.specs.ExprJson.{exprs_of, type_of_name}
use Rattle.pipe_query.specs.JsonShapes.{has_members, pair_of}

-- a pair of a name and a type's name
abbrev pub json_field : Data → Option Field
json_field d =
    option_and_then (λ p.
    option_and_then (λ name.
    option_map (λ dtype. record { name = name; dtype = dtype }) (type_of_name p.1))
    (as_str p.0))
    (pair_of d)

-- the fields that a list's items are
abbrev pub json_fields : Items → Option (List Field)
json_fields no_items = Some []
json_fields (item d ds) = option_and_then (λ f. option_map (λ fs. f ∷ fs) (json_fields ds)) (json_field d)

-- at least one field
abbrev pub some_fields : List Field → Option (List Field)
some_fields fields = if length fields == 0 then None else Some fields

-- a list of at least one field
abbrev pub schema_of : Option Data → Option (List Field)
schema_of member =
    option_and_then some_fields (option_and_then json_fields (option_and_then as_array member))

-- a list of expressions
abbrev pub json_exprs : Option Data → Option (List Expr)
json_exprs member = option_and_then exprs_of (option_and_then as_array member)

-- an offset, which may be negative, and a length
abbrev pub bounds_of : Data → Option (ℤ × ℕ)
bounds_of d =
    option_and_then (λ p.
    option_and_then (λ offset.
    option_map (λ count. (offset, count)) (option_and_then as_u64 (as_number p.1)))
    (option_and_then as_i64 (as_number p.0)))
    (pair_of d)

-- a slice that is not there, or null, is none
abbrev pub slice_of : Option Data → Option (Option (ℤ × ℕ))
slice_of None = Some None
slice_of (Some d) = if is_some (as_null d) then Some None else option_map Some (bounds_of d)

-- the truth whether order is kept: false where it is not there
abbrev pub order_of : Option Data → Option Bool
order_of None = Some false
order_of (Some d) = as_bool d

-- one where a member is there
abbrev pub present : Option Data → ℕ
present None = 0
present (Some d) = 1

-- whether an object has three members beside the two that it may have, and no other
abbrev pub has_query_members : Data → Bool
has_query_members d =
    has_members (3 + present (get (codes "slice") d) + present (get (codes "maintain_order") d)) d

-- an object with the members `schema`, `keys` and `aggs`, and with `slice` and `maintain_order` if
-- wanted
abbrev pub query_of : Data → Option WrittenQuery
query_of d =
    if has_query_members d then
    option_and_then (λ schema.
    option_and_then (λ keys.
    option_and_then (λ aggs.
    option_and_then (λ slice.
    option_map (λ order. record {
      schema = schema;
      keys = keys;
      aggs = aggs;
      slice = slice;
      keeps_order = order;
    })
    (order_of (get (codes "maintain_order") d)))
    (slice_of (get (codes "slice") d)))
    (json_exprs (get (codes "aggs") d)))
    (json_exprs (get (codes "keys") d)))
    (schema_of (get (codes "schema") d))
    else None
