-- Of the proofs alone: how an arena grows by an expression.
use Rattle.std.specs.Prelude.{true, false, ◌≡◌, ◌++◌, List, length, Option, Some, None, ⊤}
use Rattle.pipe_query.specs.declared.json_names.Over.{Over}
use Rattle.pipe_query.specs.declared.json_names.Over.TheVariants as over
use Rattle.pipe_exprs.specs.declared.expression.Node.{Node}
use Rattle.pipe_exprs.specs.declared.expression.AExpr.{AExpr}
use Rattle.pipe_exprs.specs.declared.expression.AExpr.TheVariants as ax
use Rattle.pipe_exprs.specs.declared.expression.IRAggExpr.TheVariants as ir
use Rattle.pipe_model.specs.Expr.{Expr}
use Rattle.pipe_query.specs.Flat.{flat, flat_all, root_node, roots}

-- what is made of one node
abbrev pub over_ax : Over → Node → AExpr
over_ax over.Sum n = ax.Agg (ir.Sum n)
over_ax over.First n = ax.Agg (ir.First n)
over_ax over.Last n = ax.Agg (ir.Last n)
over_ax over.Mean n = ax.Agg (ir.Mean n)
over_ax over.Min n = ax.Agg (ir.Min n false)
over_ax over.Max n = ax.Agg (ir.Max n false)
over_ax over.Count n = ax.Agg (ir.Count n false)
over_ax over.CountAll n = ax.Agg (ir.Count n true)
over_ax over.Median n = ax.Agg (ir.Median n)
over_ax over.NUnique n = ax.Agg (ir.NUnique n)
over_ax over.Sort n = ax.Sort n

-- there is a node exactly where there is an expression: an arena grew by the nodes of its tree, and
-- the node is the root
abbrev pub IsAdded : Option Expr → List AExpr → List AExpr → Option Node → Type 0
IsAdded None old new None = ⊤
IsAdded None old new (Some n) = ⊥
IsAdded (Some e) old new None = ⊥
IsAdded (Some e) old new (Some n) =
    (new ≡ old ++ flat (length old) e) × (n ≡ root_node (length old) e)

-- the same of the expressions of a list
abbrev pub AreAdded : Option (List Expr) → List AExpr → List AExpr → Option (List Node) → Type 0
AreAdded None old new None = ⊤
AreAdded None old new (Some ns) = ⊥
AreAdded (Some es) old new None = ⊥
AreAdded (Some es) old new (Some ns) =
    (new ≡ old ++ flat_all (length old) es) × (ns ≡ roots (length old) es)
