-- The columns that a query puts out.
use Rattle.std.specs.Prelude.{ℕ, List, [], ◌∷◌, ◌++◌, map, codes}
use Rattle.std.specs.List.{flat_map}
use Rattle.pipe_columns.specs.declared.data_type.DataType.{DataType}
use Rattle.pipe_columns.specs.declared.data_type.DataType.TheVariants as dt
use Rattle.pipe_columns.specs.declared.schema.Field.{Field}
use Rattle.pipe_model.specs.Kind.{Kind}
use Rattle.pipe_model.specs.Kind as kind
use Rattle.pipe_columns.specs.DataType.{sum_type}
use Rattle.pipe_model.specs.Expr.{name_of}
use Rattle.pipe_model.specs.Typing.{known_type}
use Rattle.pipe_model.specs.Query.{Input, each, rows_alone, QueryTree}

-- the type of what an aggregate is fed: a null that stands for a row is one of UInt32
abbrev pub input_type : List Field → Input → DataType
input_type schema (each e) = known_type e schema
input_type schema rows_alone = dt.UInt32

-- the types of the keys
abbrev pub key_types : QueryTree → List DataType
key_types q = map (λ e. known_type e q.schema) q.keys

-- the columns of a mean: its exact sum and its count, and a sole column for texts
abbrev pub mean_fields : List ℕ → DataType → List Field
mean_fields name dt.String = record { name = name; dtype = dt.String } ∷ []
mean_fields name t =
    record { name = name ++ codes "_sum"; dtype = dt.Int128 }
    ∷ record { name = name ++ codes "_count"; dtype = dt.UInt32 } ∷ []

-- the output columns of an aggregate of a name over values of a type
abbrev pub agg_fields : List ℕ → Kind → DataType → List Field
agg_fields name kind.sum t = record { name = name; dtype = sum_type t } ∷ []
agg_fields name kind.mean t = mean_fields name t
agg_fields name kind.min t = record { name = name; dtype = t } ∷ []
agg_fields name kind.max t = record { name = name; dtype = t } ∷ []
agg_fields name kind.first t = record { name = name; dtype = t } ∷ []
agg_fields name kind.last t = record { name = name; dtype = t } ∷ []
agg_fields name kind.count t = record { name = name; dtype = dt.UInt32 } ∷ []
agg_fields name kind.len t = record { name = name; dtype = dt.UInt32 } ∷ []

-- the keys' fields, then the columns of the aggregates
abbrev pub output_schema : QueryTree → List Field
output_schema q = map (λ e. record { name = name_of e; dtype = known_type e q.schema }) q.keys
    ++ flat_map (λ a. agg_fields a.name a.kind (input_type q.schema a.input)) q.aggs
