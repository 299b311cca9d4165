-- The running aggregates of a query have seen no value.
use Rattle.std.proofs.Common.{◌≡◌, List, [], ◌∷◌, map, refl, ap}
use Rattle.pipe_columns.specs.declared.data_type.DataType.{DataType}
use Rattle.pipe_columns.specs.declared.data_type.DataType.TheVariants as dt
use Rattle.pipe_aggs.specs.HashAggs.{extreme_function, function_for, mean_function, prototypes, sum_function}
use Rattle.pipe_model.specs.Kind.{Kind}
use Rattle.pipe_model.specs.Kind as kind
use Rattle.pipe_model.specs.Output.{input_type}
use Rattle.pipe_model.specs.Query.{AggTree, QueryTree}
use Rattle.pipe_columns.specs.declared.schema.Field.{Field}
use Rattle.pipe_running.specs.GroupStates.{fresh_states}
use Rattle.pipe_running.specs.States.{fresh}
use Rattle.pipe_running.specs.declared.function.AggregateFunction.{AggregateFunction}
use Rattle.pipe_running.specs.declared.min_max.Direction.{Direction}
use Rattle.pipe_running.specs.declared.min_max.Direction.TheVariants as direction
use Rattle.pipe_groups.specs.Shape.{IsShape, Shape}

fresh-sum : (t : DataType) → fresh (sum_function t) ≡ sum_function t
fresh-sum dt.Boolean = refl
fresh-sum dt.Int8 = refl
fresh-sum dt.Int16 = refl
fresh-sum dt.Int32 = refl
fresh-sum dt.Int64 = refl
fresh-sum dt.UInt8 = refl
fresh-sum dt.UInt16 = refl
fresh-sum dt.UInt32 = refl
fresh-sum dt.UInt64 = refl
fresh-sum dt.Int128 = refl
fresh-sum dt.Date = refl
fresh-sum dt.String = refl

fresh-mean : (t : DataType) → fresh (mean_function t) ≡ mean_function t
fresh-mean dt.Boolean = refl
fresh-mean dt.Int8 = refl
fresh-mean dt.Int16 = refl
fresh-mean dt.Int32 = refl
fresh-mean dt.Int64 = refl
fresh-mean dt.UInt8 = refl
fresh-mean dt.UInt16 = refl
fresh-mean dt.UInt32 = refl
fresh-mean dt.UInt64 = refl
fresh-mean dt.Int128 = refl
fresh-mean dt.Date = refl
fresh-mean dt.String = refl

fresh-extreme : (d : Direction) (t : DataType) → fresh (extreme_function d t) ≡ extreme_function d t
fresh-extreme d dt.Boolean = refl
fresh-extreme d dt.Int8 = refl
fresh-extreme d dt.Int16 = refl
fresh-extreme d dt.Int32 = refl
fresh-extreme d dt.Int64 = refl
fresh-extreme d dt.UInt8 = refl
fresh-extreme d dt.UInt16 = refl
fresh-extreme d dt.UInt32 = refl
fresh-extreme d dt.UInt64 = refl
fresh-extreme d dt.Int128 = refl
fresh-extreme d dt.Date = refl
fresh-extreme d dt.String = refl

fresh-function : (k : Kind) (t : DataType) → fresh (function_for k t) ≡ function_for k t
fresh-function kind.sum t = fresh-sum t
fresh-function kind.mean t = fresh-mean t
fresh-function kind.min t = fresh-extreme direction.Min t
fresh-function kind.max t = fresh-extreme direction.Max t
fresh-function kind.first t = refl
fresh-function kind.last t = refl
fresh-function kind.count t = refl
fresh-function kind.len t = refl

fresh-aggs : (schema : List Field) (aggs : List AggTree)
    → fresh_states (map (λ a. function_for a.kind (input_type schema a.input)) aggs) ≡ map (λ a. function_for a.kind (input_type schema a.input)) aggs
fresh-aggs schema [] = refl
fresh-aggs schema (a ∷ others) = rw (fresh-function a.kind (input_type schema a.input), fresh-aggs schema others) refl

-- those of a query
pub fresh-prototypes : (q : QueryTree) → fresh_states (prototypes q) ≡ prototypes q
fresh-prototypes q = fresh-aggs q.schema q.aggs

-- those of a shape
pub fresh-shape : (s : Shape) → IsShape s → fresh_states s.prototypes ≡ s.prototypes
fresh-shape s is =
    let same : s.prototypes ≡ prototypes is.query = ap (λ (x : Shape). x.prototypes) is.of_query in
    rw same (fresh-prototypes is.query)

-- what has the parts of a shape is the shape
pub shape-parts : (s : Shape) (keys inputs : List DataType) (fs : List AggregateFunction) (fields : List Field) → keys ≡ s.key_types → inputs ≡ s.input_types → fs ≡ s.prototypes → fields ≡ s.fields
    → ◌≡◌ {A = Shape} (record { key_types = keys; input_types = inputs; prototypes = fs; fields = fields }) s
shape-parts s keys inputs fs fields k i p f = rw (k, i, p, f) refl
