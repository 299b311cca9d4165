-- Expressions as trees.
use Rattle.std.specs.Prelude.{ℕ, Bool, List, codes}
use Rattle.pipe_columns.specs.declared.data_type.DataType.{DataType}
use Rattle.pipe_columns.specs.declared.any_value.AnyValue.{AnyValue}
use Rattle.pipe_columns.specs.declared.operator.Operator.{Operator}

-- how an aggregate sums up the values of its input; a count tells whether nulls count, and a least
-- or greatest value whether it propagates NaNs
pub data Aggregation : Type 0 where
  sum : Aggregation
  first : Aggregation
  last : Aggregation
  mean : Aggregation
  count : Bool → Aggregation
  min : Bool → Aggregation
  max : Bool → Aggregation
  median : Aggregation
  n_unique : Aggregation

-- an expression over the columns of a frame
pub data Expr : Type 0 where
  -- the column of a name
  column : List ℕ → Expr
  -- a value of a type
  literal : DataType → AnyValue → Expr
  -- the values of an expression in another type
  cast : Expr → DataType → Expr
  -- an operator and its operands
  binary : Expr → Operator → Expr → Expr
  -- a predicate, what holds where it is true, and what holds elsewhere
  ternary : Expr → Expr → Expr → Expr
  -- an expression under another name
  alias : Expr → List ℕ → Expr
  -- an aggregate of an expression
  aggregate : Aggregation → Expr → Expr
  -- the number of rows
  len : Expr
  -- an expression in the rows where another one is true
  filter : Expr → Expr → Expr
  -- the values of an expression in their order
  sort : Expr → Expr

-- the name of an expression's field
abbrev pub name_of : Expr → List ℕ
name_of (column name) = name
name_of (literal t v) = codes "literal"
name_of (cast e t) = name_of e
name_of (binary l op r) = name_of l
name_of (ternary p truthy falsy) = name_of truthy
name_of (alias e name) = name
name_of (aggregate a e) = name_of e
name_of len = codes "len"
name_of (filter e by) = name_of e
name_of (sort e) = name_of e
