-- What a query without fault has: values in each row, of types that its aggregates take.
use Rattle.std.specs.Prelude.{◌≡◌, ◌&&◌, Bool, true, not, List, is_some}
use Rattle.std.specs.List.{list_all}
use Rattle.pipe_columns.specs.declared.schema.Field.{Field}
use Rattle.pipe_columns.specs.declared.data_type.DataType.{DataType}
use Rattle.pipe_columns.specs.DataType.{is_date, is_input, is_integer}
use Rattle.pipe_model.specs.Kind.{Kind}
use Rattle.pipe_model.specs.Kind as kind
use Rattle.pipe_model.specs.Expr.{Expr}
use Rattle.pipe_model.specs.Output.{input_type}
use Rattle.pipe_model.specs.Query.{AggTree, each, Input, QueryTree, rows_alone}
use Rattle.pipe_model.specs.Typing.{is_row_wise, type_of}

-- whether an expression has a value in each row, of a type
abbrev pub is_valued : List Field → Expr → Bool
is_valued schema e = is_row_wise e && is_some (type_of e schema)

-- whether what an aggregate is fed has a value in each row; rows alone need none
abbrev pub is_fed : List Field → Input → Bool
is_fed schema (each e) = is_valued schema e
is_fed schema rows_alone = true

-- whether a kind has a running aggregate over values of a type: no sum or mean of dates or of 128
-- bits, and a least or greatest value of integers alone
abbrev pub suited : Kind → DataType → Bool
suited kind.sum t = is_input t && not (is_date t)
suited kind.mean t = is_input t && not (is_date t)
suited kind.min t = is_integer t
suited kind.max t = is_integer t
suited kind.first t = true
suited kind.last t = true
suited kind.count t = true
suited kind.len t = true

-- whether an aggregate has a running one over the type of its input
abbrev pub is_suited : List Field → AggTree → Bool
is_suited schema a = suited a.kind (input_type schema a.input)

-- keys and inputs have values in each row, and each aggregate has a running one
pub record IsGroupable (q : QueryTree) : Type 0 where
  pub keys : list_all (is_valued q.schema) q.keys ≡ true
  pub inputs : list_all (λ a. is_fed q.schema a.input) q.aggs ≡ true
  pub aggs : list_all (is_suited q.schema) q.aggs ≡ true
