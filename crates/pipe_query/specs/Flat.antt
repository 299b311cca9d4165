-- Trees as the nodes of an arena: children first, from left to right.
use Rattle.std.specs.Prelude.{◌≡◌, ◌+◌, ◌++◌, ℕ, List, [], ◌∷◌, length}
use Rattle.pipe_exprs.specs.declared.expression.Node.{Node}
use Rattle.pipe_exprs.specs.declared.expression.AExpr.{AExpr}
use Rattle.pipe_exprs.specs.declared.expression.AExpr.TheVariants as ax
use Rattle.pipe_exprs.specs.declared.expression.IRAggExpr.{IRAggExpr}
use Rattle.pipe_exprs.specs.declared.expression.IRAggExpr.TheVariants as ir
use Rattle.pipe_model.specs.Expr.{Aggregation, Expr}
use Rattle.pipe_model.specs.Expr as expr
use Rattle.pipe_aggs.specs.declared.query.Query.{Query}
use Rattle.pipe_aggs.specs.QueryTrees.{agg_exprs, key_exprs}

-- the place of a tree's root, where its first node stands at place n: the last of its nodes
abbrev pub root : ℕ → Expr → ℕ
root n (expr.column name) = n
root n (expr.literal t v) = n
root n (expr.cast e t) = root n e + 1
root n (expr.binary l o r) = root (root n l + 1) r + 1
root n (expr.ternary p t f) = root (root (root n p + 1) t + 1) f + 1
root n (expr.alias e name) = root n e + 1
root n (expr.aggregate a e) = root n e + 1
root n expr.len = n
root n (expr.filter e by) = root (root n e + 1) by + 1
root n (expr.sort e) = root n e + 1

-- the node at a place
abbrev pub node : ℕ → Node
node n = record { 0 = n }

-- the root's node
abbrev pub root_node : ℕ → Expr → Node
root_node n e = node (root n e)

-- an aggregate of a node
abbrev pub agg_node : Aggregation → Node → IRAggExpr
agg_node expr.sum n = ir.Sum n
agg_node expr.first n = ir.First n
agg_node expr.last n = ir.Last n
agg_node expr.mean n = ir.Mean n
agg_node (expr.count include_nulls) n = ir.Count n include_nulls
agg_node (expr.min propagate_nans) n = ir.Min n propagate_nans
agg_node (expr.max propagate_nans) n = ir.Max n propagate_nans
agg_node expr.median n = ir.Median n
agg_node expr.n_unique n = ir.NUnique n

-- the nodes of a tree, the first of which stands at place n
abbrev pub flat : ℕ → Expr → List AExpr
flat n (expr.column name) = ax.Column name ∷ []
flat n (expr.literal t v) = ax.Literal t v ∷ []
flat n (expr.cast e t) = flat n e ++ ax.Cast (root_node n e) t ∷ []
flat n (expr.binary l o r) =
    flat n l ++ flat (root n l + 1) r
    ++ ax.BinaryExpr (root_node n l) o (root_node (root n l + 1) r) ∷ []
flat n (expr.ternary p t f) =
    flat n p ++ flat (root n p + 1) t ++ flat (root (root n p + 1) t + 1) f
    ++ ax.Ternary (root_node n p) (root_node (root n p + 1) t)
    (root_node (root (root n p + 1) t + 1) f) ∷ []
flat n (expr.alias e name) = flat n e ++ ax.Alias (root_node n e) name ∷ []
flat n (expr.aggregate a e) = flat n e ++ ax.Agg (agg_node a (root_node n e)) ∷ []
flat n expr.len = ax.Len ∷ []
flat n (expr.filter e by) =
    flat n e ++ flat (root n e + 1) by
    ++ ax.Filter (root_node n e) (root_node (root n e + 1) by) ∷ []
flat n (expr.sort e) = flat n e ++ ax.Sort (root_node n e) ∷ []

-- the nodes of some trees, one after the other
abbrev pub flat_all : ℕ → List Expr → List AExpr
flat_all n [] = []
flat_all n (e ∷ es) = flat n e ++ flat_all (root n e + 1) es

-- the roots of some trees
abbrev pub roots : ℕ → List Expr → List Node
roots n [] = []
roots n (e ∷ es) = root_node n e ∷ roots (root n e + 1) es

-- a query's arena is the list of the nodes of its keys and of its aggregates, and names their roots
pub record IsFlat (q : Query) : Type 0 where
  pub arena : q.arena ≡ flat_all 0 (key_exprs q ++ agg_exprs q)
  pub keys : q.keys.items ≡ roots 0 (key_exprs q)
  pub aggs : q.aggs.items ≡ roots (length (flat_all 0 (key_exprs q))) (agg_exprs q)
