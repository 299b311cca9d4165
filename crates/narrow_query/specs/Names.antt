-- The columns that expressions name.
use Rattle.std.specs.Prelude.{ℕ, Bool, true, false, not, ◌&&◌, ◌||◌, List, [], ◌∷◌, map}
use Rattle.std.specs.List.{list_all, list_any}
use Rattle.std.specs.Str.{bytes_eq}
use Rattle.pipe_columns.specs.declared.schema.Field.{Field}
use Rattle.pipe_exprs.specs.declared.expression.AExpr.{AExpr}
use Rattle.pipe_exprs.specs.declared.expression.AExpr.TheVariants as ax
use Rattle.pipe_model.specs.Expr.{Expr}
use Rattle.pipe_model.specs.Expr as expr
use Rattle.pipe_model.specs.Query.{each, Input, QueryTree, rows_alone}

-- whether an expression names a column
abbrev pub names : List ℕ → Expr → Bool
names name (expr.column n) = bytes_eq name n
names name (expr.literal t v) = false
names name (expr.cast e t) = names name e
names name (expr.binary l o r) = names name l || names name r
names name (expr.ternary p truthy falsy) =
    names name p || (names name truthy || names name falsy)
names name (expr.alias e n) = names name e
names name (expr.aggregate a e) = names name e
names name expr.len = false
names name (expr.filter e by) = names name e || names name by
names name (expr.sort e) = names name e

-- whether each element of a list that meets a test is wanted
abbrev pub keeps_all : {A : Type 0} → (A → Bool) → List Bool → List A → Bool
keeps_all test [] xs = true
keeps_all test (w ∷ ws) [] = true
keeps_all test (w ∷ ws) (x ∷ xs) = (w || not (test x)) && keeps_all test ws xs

-- whether each field that an expression names is wanted
abbrev pub has_named : List Bool → List Field → Expr → Bool
has_named wanted schema e = keeps_all (λ f. names f.name e) wanted schema

-- whether each field that an aggregate is fed by is wanted; rows alone need none
abbrev pub has_fed : List Bool → List Field → Input → Bool
has_fed wanted schema (each e) = has_named wanted schema e
has_fed wanted schema rows_alone = true

-- whether each field that a query names is wanted
abbrev pub covers : List Bool → QueryTree → Bool
covers wanted q =
    list_all (has_named wanted q.schema) q.keys
    && list_all (λ a. has_fed wanted q.schema a.input) q.aggs

-- whether an expression of an arena is the column of a name
abbrev pub is_column : List ℕ → AExpr → Bool
is_column name (ax.Column n) = bytes_eq name n
is_column name e = false

-- which fields an arena's expressions name
abbrev pub named_fields : List AExpr → List Field → List Bool
named_fields exprs schema = map (λ f. list_any (is_column f.name) exprs) schema
