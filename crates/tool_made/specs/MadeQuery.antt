-- The query that generated rows are asked.
use Rattle.std.specs.Prelude.{List, [], ◌∷◌, codes, false, None}
use Rattle.pipe_columns.specs.declared.data_type.DataType.TheVariants as dt
use Rattle.pipe_model.specs.Expr.{column}
use Rattle.pipe_model.specs.Kind as kind
use Rattle.pipe_model.specs.Query.{QueryTree, each}
use Rattle.pipe_columns.specs.declared.schema.Field.{Field}

-- the columns of generated rows
abbrev pub made_schema : List Field
made_schema =
    record { name = codes "k"; dtype = dt.Int64 } ∷ record { name = codes "v"; dtype = dt.Int64 } ∷ []

-- the sum of v by k
abbrev pub made_tree : QueryTree
made_tree = record {
  schema = made_schema;
  keys = column (codes "k") ∷ [];
  aggs = record { name = codes "v"; kind = kind.sum; input = each (column (codes "v")) } ∷ [];
  slice = None;
  keeps_order = false;
}
