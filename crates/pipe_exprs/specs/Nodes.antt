-- Of the proofs alone: what is read off the expression at a node, where there is one.
use Rattle.std.specs.Prelude.{ℕ, Bool, false, List, Option, Some, None, codes}
use Rattle.pipe_columns.specs.Frame.{ColumnData}
use Rattle.pipe_exprs.specs.declared.expression.AExpr.{AExpr}
use Rattle.pipe_exprs.specs.declared.expression.AExpr.TheVariants as ax
use Rattle.pipe_exprs.specs.declared.expression.Node.{Node}
use Rattle.pipe_model.specs.Expr.{Expr}
use Rattle.pipe_model.specs.Expr as expr
use Rattle.pipe_exprs.specs.Evaluated.{sorted_if_any}
use Rattle.pipe_exprs.specs.Trees.{agg_input, tree_of}
use Rattle.pipe_model.specs.Value.{column_named}

-- the tree of an expression, where there is one
abbrev pub tree_if : List Expr → Option AExpr → Expr
tree_if ts None = expr.len
tree_if ts (Some e) = tree_of ts e

-- the node whose name an expression takes
abbrev pub name_giver : Option AExpr → Option Node
name_giver (Some (ax.Cast e t)) = Some e
name_giver (Some (ax.BinaryExpr l o r)) = Some l
name_giver (Some (ax.Ternary p t f)) = Some t
name_giver (Some (ax.Agg a)) = Some (agg_input a)
name_giver (Some (ax.Filter e by)) = Some e
name_giver (Some (ax.Sort e)) = Some e
name_giver e = None

-- the name of an expression that takes none
abbrev pub own_name : Option AExpr → List ℕ
own_name (Some (ax.Column name)) = name
own_name (Some (ax.Literal t v)) = codes "literal"
own_name (Some (ax.Alias e name)) = name
own_name e = codes "len"

-- the flag of an expression that is no alias
abbrev pub own_flag : Option AExpr → List ColumnData → Bool
own_flag (Some (ax.Column name)) columns = sorted_if_any (column_named name columns)
own_flag e columns = false
