-- The types of a shape's output columns: those of keys, then those of what its running aggregates give.
use Rattle.std.proofs.Common.{◌≡◌, ◌∙◌, ℕ, ◌≤◌, true, List, [], ◌∷◌, ◌++◌, length, map, take, drop, refl, sym, ap, subst, arith}
use Rattle.std.specs.List.{flat_map, list_all}
use Rattle.std.proofs.lemmas.Bool.{and_parts}
use Rattle.std.proofs.Math.Seq.{drop-append_seam, take-append_seam}
use Rattle.std.proofs.lemmas.List.{length-append, length-map, map-append}
use Rattle.pipe_columns.specs.declared.data_type.DataType.{DataType}
use Rattle.pipe_columns.specs.declared.schema.Field.{Field}
use Rattle.pipe_aggs.specs.HashAggs.{function_for}
use Rattle.pipe_aggs.proofs.HashAggFacts.{types-for}
use Rattle.pipe_model.specs.Expr.{Expr, name_of}
use Rattle.pipe_model.specs.Groupable.{IsGroupable, is_suited}
use Rattle.pipe_model.specs.Output.{agg_fields, input_type, key_types, output_schema}
use Rattle.pipe_model.specs.Query.{AggTree, QueryTree}
use Rattle.pipe_model.specs.Typing.{known_type}
use Rattle.pipe_running.specs.Stands.{given_types}
use Rattle.pipe_groups.specs.Shape.{IsShape, Shape, shape_of}

-- the types of fields
abbrev pub dtypes : List Field → List DataType
dtypes fields = map (λ f. f.dtype) fields

-- the fields of keys
abbrev key_fields : List Field → List Expr → List Field
key_fields schema keys = map (λ e. record { name = name_of e; dtype = known_type e schema }) keys

-- the fields of aggregates
abbrev given_fields : List Field → List AggTree → List Field
given_fields schema aggs = flat_map (λ a. agg_fields a.name a.kind (input_type schema a.input)) aggs

key-dtypes : (schema : List Field) (keys : List Expr) → dtypes (key_fields schema keys) ≡ map (λ e. known_type e schema) keys
key-dtypes schema [] = refl
key-dtypes schema (e ∷ es) = ap (λ (ts : List DataType). known_type e schema ∷ ts) (key-dtypes schema es)

given-dtypes : (schema : List Field) (aggs : List AggTree) → list_all (is_suited schema) aggs ≡ true
    → dtypes (given_fields schema aggs) ≡ flat_map given_types (map (λ a. function_for a.kind (input_type schema a.input)) aggs)
given-dtypes schema [] s = refl
given-dtypes schema (a ∷ others) s =
    let parts = and_parts (is_suited schema a) (list_all (is_suited schema) others) s in
    let t = input_type schema a.input in
    map-append (λ (f : Field). f.dtype) (agg_fields a.name a.kind t) (given_fields schema others)
    ∙ ap (λ (ts : List DataType). ts ++ dtypes (given_fields schema others)) (types-for a.name a.kind t parts.0)
    ∙ ap (λ (ts : List DataType). given_types (function_for a.kind t) ++ ts) (given-dtypes schema others parts.1)

-- what holds of the shapes of groupable queries holds of every shape
by_query : (P : Shape → Type 0) → ((q : QueryTree) → IsGroupable q → P (shape_of q)) → (s : Shape) → IsShape s → P s
by_query P f s h = subst P (sym h.of_query) (f h.query h.groupable)

key-count : (q : QueryTree) → length (key_types q) ≡ length (key_fields q.schema q.keys)
key-count q = length-map q.keys (λ (e : Expr). known_type e q.schema) ∙ sym (length-map q.keys (λ (e : Expr). record { name = name_of e; dtype = known_type e q.schema }))

-- the first columns are those of the keys
pub shape-keys : (s : Shape) → IsShape s → dtypes (take (length s.key_types) s.fields) ≡ s.key_types
shape-keys s h = by_query (λ x. dtypes (take (length x.key_types) x.fields) ≡ x.key_types)
    (λ q g. ap (λ (n : ℕ). dtypes (take n (output_schema q))) (key-count q)
    ∙ ap dtypes (take-append_seam (key_fields q.schema q.keys) (given_fields q.schema q.aggs)) ∙ key-dtypes q.schema q.keys) s h

-- the others are of the types that are given
pub shape-given : (s : Shape) → IsShape s → dtypes (drop (length s.key_types) s.fields) ≡ flat_map given_types s.prototypes
shape-given s h = by_query (λ x. dtypes (drop (length x.key_types) x.fields) ≡ flat_map given_types x.prototypes)
    (λ q g. ap (λ (n : ℕ). dtypes (drop n (output_schema q))) (key-count q)
    ∙ ap dtypes (drop-append_seam (key_fields q.schema q.keys) (given_fields q.schema q.aggs)) ∙ given-dtypes q.schema q.aggs g.aggs) s h

-- there are as many columns as keys at least
pub shape-fields : (s : Shape) → IsShape s → length s.key_types ≤ length s.fields
shape-fields s h = by_query (λ x. length x.key_types ≤ length x.fields)
    (λ q g. omega (arith, key-count q, length-append (key_fields q.schema q.keys) (given_fields q.schema q.aggs))) s h
