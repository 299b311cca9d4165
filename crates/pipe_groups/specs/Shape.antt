-- What groups are of: what a table needs of a query.
use Rattle.std.specs.Prelude.{◌≡◌, List}
use Rattle.pipe_columns.specs.declared.data_type.DataType.{DataType}
use Rattle.pipe_columns.specs.declared.schema.Field.{Field}
use Rattle.pipe_running.specs.declared.function.AggregateFunction.{AggregateFunction}
use Rattle.pipe_aggs.specs.CheckedQuery.{input_types}
use Rattle.pipe_aggs.specs.HashAggs.{prototypes}
use Rattle.pipe_model.specs.Groupable.{IsGroupable}
use Rattle.pipe_model.specs.Output.{key_types, output_schema}
use Rattle.pipe_model.specs.Query.{QueryTree}

-- the types of keys and of inputs, the running aggregates before any row, and the output columns
pub record Shape : Type 0 where
  pub key_types : List DataType
  pub input_types : List DataType
  pub prototypes : List AggregateFunction
  pub fields : List Field

-- those of a query
abbrev pub shape_of : QueryTree → Shape
shape_of q = record {
  key_types = key_types q;
  input_types = input_types q;
  prototypes = prototypes q;
  fields = output_schema q;
}

-- a shape is that of a query without fault
pub record IsShape (s : Shape) : Type 0 where
  pub query : QueryTree
  pub of_query : s ≡ shape_of query
  pub groupable : IsGroupable query
