-- The types of the rows of a query.
use Rattle.std.specs.Prelude.{◌≡◌, All, List, true}
use Rattle.std.specs.List.{AllZip}
use Rattle.pipe_columns.specs.AnyValue.{fits, HasUtf8}
use Rattle.pipe_columns.specs.Row.{Row}
use Rattle.pipe_columns.specs.declared.any_value.AnyValue.{AnyValue}
use Rattle.pipe_columns.specs.declared.data_type.DataType.{DataType}
use Rattle.pipe_running.specs.States.{takes}
use Rattle.pipe_running.specs.declared.function.AggregateFunction.{AggregateFunction}
use Rattle.pipe_aggs.specs.CheckedQuery.{input_types}
use Rattle.pipe_model.specs.Output.{key_types}
use Rattle.pipe_model.specs.Query.{QueryTree}

-- there are as many values as types, each fits its type, and texts are in UTF-8
pub record HasTypes (types : List DataType) (values : List AnyValue) : Type 0 where
  pub fit : AllZip (λ t v. fits v t ≡ true) types values
  pub utf8 : All HasUtf8 values

-- the key and the inputs of a row are of a query's types
pub record IsRowOf (q : QueryTree) (r : Row) : Type 0 where
  pub key : HasTypes (key_types q) r.key
  pub inputs : HasTypes (input_types q) r.inputs

-- there are as many values as running aggregates, and each takes its value
abbrev pub AreTaken : List AggregateFunction → List AnyValue → Type 0
AreTaken functions values = AllZip (λ f v. takes f v ≡ true) functions values
