-- A query, with its expressions as trees.
use Rattle.std.specs.Prelude.{ℕ, ℤ, Bool, List, Option}
use Rattle.pipe_columns.specs.declared.schema.Field.{Field}
use Rattle.pipe_model.specs.Kind.{Kind}
use Rattle.pipe_model.specs.Expr.{Expr}

-- what an aggregate is fed in each row: the value of an expression, or null where only rows count
pub data Input : Type 0 where
  each : Expr → Input
  rows_alone : Input

-- an aggregate: the name of its columns, its kind, and what it is fed
pub record AggTree : Type 0 where
  pub name : List ℕ
  pub kind : Kind
  pub input : Input

-- the schema of the input, the keys, the aggregates, a slice of the groups as how many are dropped
-- and how many are kept, and whether groups come in the order of their first rows
pub record QueryTree : Type 0 where
  pub schema : List Field
  pub keys : List Expr
  pub aggs : List AggTree
  pub slice : Option (ℕ × ℕ)
  pub keeps_order : Bool

-- a query as it is written: its aggregates stand as expressions, with their names and kinds, and
-- its slice may begin below the first group
pub record WrittenQuery : Type 0 where
  pub schema : List Field
  pub keys : List Expr
  pub aggs : List Expr
  pub slice : Option (ℤ × ℕ)
  pub keeps_order : Bool
