-- What the worked rows are about.
use Rattle.std.specs.Prelude.{ℕ, false, List, [], ◌∷◌, codes, None}
use Rattle.pipe_columns.specs.declared.data_type.DataType.{DataType}
use Rattle.pipe_columns.specs.declared.data_type.DataType.TheVariants as dt
use Rattle.pipe_columns.specs.declared.schema.Field.{Field}
use Rattle.pipe_model.specs.Expr.{Aggregation, Expr}
use Rattle.pipe_model.specs.Expr as expr
use Rattle.pipe_model.specs.Query.{WrittenQuery}
use Rattle.pipe_model.specs.WorkedExprs.{field, v}

-- the columns k and v of two types
abbrev pub k_and_v : DataType → DataType → List Field
k_and_v t u = field (codes "k") t ∷ field (codes "v") u ∷ []

-- an aggregate of v
abbrev pub of_v : Aggregation → Expr
of_v a = expr.aggregate a v

-- an aggregate of v of a name
abbrev pub named_of_v : List ℕ → Aggregation → Expr
named_of_v name a = expr.alias (of_v a) name

-- the sum and the count of v by k, both of Int64
abbrev pub sum_and_count : WrittenQuery
sum_and_count = record {
  schema = k_and_v dt.Int64 dt.Int64;
  keys = expr.column (codes "k") ∷ [];
  aggs = named_of_v (codes "s") expr.sum ∷ named_of_v (codes "c") (expr.count false) ∷ [];
  slice = None;
  keeps_order = false;
}

-- the same with other fields
abbrev pub with_fields : List Field → WrittenQuery
with_fields fields = record sum_and_count { schema = fields }

-- the same with other keys
abbrev pub with_keys : List Expr → WrittenQuery
with_keys keys = record sum_and_count { keys = keys }

-- the same with other aggregates
abbrev pub with_aggs : List Expr → WrittenQuery
with_aggs aggs = record sum_and_count { aggs = aggs }
