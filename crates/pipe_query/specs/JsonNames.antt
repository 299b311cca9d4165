-- What the names in a query stand for.
use Rattle.std.specs.Prelude.{ℕ, List, [], ◌∷◌, codes, bytes_eq, if◌then◌else◌, Option, Some, None}
use Rattle.pipe_columns.specs.declared.data_type.DataType.{DataType}
use Rattle.pipe_columns.specs.declared.data_type.DataType.TheVariants as dt
use Rattle.pipe_columns.specs.declared.operator.Operator.{Operator}
use Rattle.pipe_columns.specs.declared.operator.Operator.TheVariants as op
use Rattle.pipe_query.specs.declared.json_names.Form.{Form}
use Rattle.pipe_query.specs.declared.json_names.Form.TheVariants as form
use Rattle.pipe_query.specs.declared.json_names.Over.TheVariants as over

-- what a table has for a name
abbrev pub named : {A : Type 0} → List (List ℕ × A) → List ℕ → Option A
named [] name = None
named (entry ∷ table) name = if bytes_eq name entry.0 then Some entry.1 else named table name

-- the types of inputs
abbrev pub type_named : List ℕ → Option DataType
type_named = named (
    (codes "Boolean", dt.Boolean) ∷ (codes "Int8", dt.Int8) ∷ (codes "Int16", dt.Int16)
    ∷ (codes "Int32", dt.Int32) ∷ (codes "Int64", dt.Int64) ∷ (codes "UInt8", dt.UInt8)
    ∷ (codes "UInt16", dt.UInt16) ∷ (codes "UInt32", dt.UInt32) ∷ (codes "UInt64", dt.UInt64)
    ∷ (codes "Date", dt.Date) ∷ (codes "String", dt.String) ∷ [])

-- the signs of operators
abbrev pub sign_named : List ℕ → Option Operator
sign_named = named (
    (codes "+", op.Plus) ∷ (codes "-", op.Minus) ∷ (codes "*", op.Multiply)
    ∷ (codes "//", op.FloorDivide) ∷ (codes "%", op.Modulus) ∷ (codes "==", op.Eq)
    ∷ (codes "!=", op.NotEq) ∷ (codes "<", op.Lt) ∷ (codes "<=", op.LtEq) ∷ (codes ">", op.Gt)
    ∷ (codes ">=", op.GtEq) ∷ (codes "and", op.And) ∷ (codes "or", op.Or) ∷ [])

-- the members of expressions
abbrev pub form_named : List ℕ → Option Form
form_named = named (
    (codes "col", form.Col) ∷ (codes "lit", form.Lit) ∷ (codes "cast", form.Cast)
    ∷ (codes "op", form.Op) ∷ (codes "if", form.If) ∷ (codes "alias", form.Alias)
    ∷ (codes "len", form.Len) ∷ (codes "filter", form.Filter)
    ∷ (codes "sum", form.Of over.Sum) ∷ (codes "first", form.Of over.First)
    ∷ (codes "last", form.Of over.Last) ∷ (codes "mean", form.Of over.Mean)
    ∷ (codes "min", form.Of over.Min) ∷ (codes "max", form.Of over.Max)
    ∷ (codes "count", form.Of over.Count) ∷ (codes "count_all", form.Of over.CountAll)
    ∷ (codes "median", form.Of over.Median) ∷ (codes "n_unique", form.Of over.NUnique)
    ∷ (codes "sort", form.Of over.Sort) ∷ [])
