-- The trees of an arena's expressions, and which lists of expressions are arenas.
use Rattle.std.specs.Prelude.{◌≡◌, ◌&&◌, ◌+◌, ◌++◌, Bool, true, ℕ, List, [], ◌∷◌, fold, nat_lt, Option, Some, None, slice_get, unwrap_or}
use Rattle.std.specs.List.{list_all}
use Rattle.pipe_exprs.specs.declared.expression.Node.{Node}
use Rattle.pipe_exprs.specs.declared.expression.AExpr.{AExpr}
use Rattle.pipe_exprs.specs.declared.expression.AExpr.TheVariants as ax
use Rattle.pipe_exprs.specs.declared.expression.IRAggExpr.{IRAggExpr}
use Rattle.pipe_exprs.specs.declared.expression.IRAggExpr.TheVariants as ir
use Rattle.pipe_model.specs.Expr.{Aggregation, Expr}
use Rattle.pipe_model.specs.Expr as expr

-- how an aggregate sums up
abbrev pub aggregation : IRAggExpr → Aggregation
aggregation (ir.Sum n) = expr.sum
aggregation (ir.First n) = expr.first
aggregation (ir.Last n) = expr.last
aggregation (ir.Mean n) = expr.mean
aggregation (ir.Count n include_nulls) = expr.count include_nulls
aggregation (ir.Min n propagate_nans) = expr.min propagate_nans
aggregation (ir.Max n propagate_nans) = expr.max propagate_nans
aggregation (ir.Median n) = expr.median
aggregation (ir.NUnique n) = expr.n_unique

-- the input of an aggregate
abbrev pub agg_input : IRAggExpr → Node
agg_input (ir.Sum n) = n
agg_input (ir.First n) = n
agg_input (ir.Last n) = n
agg_input (ir.Mean n) = n
agg_input (ir.Count n include_nulls) = n
agg_input (ir.Min n propagate_nans) = n
agg_input (ir.Max n propagate_nans) = n
agg_input (ir.Median n) = n
agg_input (ir.NUnique n) = n

-- the node under an alias, where there is an expression and it is one
abbrev pub alias_input : Option AExpr → Option Node
alias_input (Some (ax.Alias e name)) = Some e
alias_input e = None

-- the nodes that an expression names, from left to right
abbrev pub children : AExpr → List Node
children (ax.Column name) = []
children (ax.Literal t v) = []
children (ax.Cast e t) = e ∷ []
children (ax.BinaryExpr l op r) = l ∷ r ∷ []
children (ax.Ternary p truthy falsy) = p ∷ truthy ∷ falsy ∷ []
children (ax.Alias e name) = e ∷ []
children (ax.Agg a) = agg_input a ∷ []
children ax.Len = []
children (ax.Filter e by) = e ∷ by ∷ []
children (ax.Sort e) = e ∷ []

-- whether an expression names only nodes below n
abbrev pub children_below : ℕ → AExpr → Bool
children_below n e = list_all (λ c. nat_lt c.0 n) (children e)

-- whether expressions from place n on name only earlier nodes
abbrev pub arena_from : ℕ → List AExpr → Bool
arena_from n [] = true
arena_from n (e ∷ es) = children_below n e && arena_from (n + 1) es

-- each expression names only earlier ones
abbrev pub IsArena : List AExpr → Type 0
IsArena exprs = arena_from 0 exprs ≡ true

-- the tree at a node, where there is one
abbrev pub tree_at : List Expr → Node → Expr
tree_at trees n = unwrap_or (slice_get trees n.0) expr.len

-- the tree of an expression, by the trees of the nodes that it names
abbrev pub tree_of : List Expr → AExpr → Expr
tree_of trees (ax.Column name) = expr.column name
tree_of trees (ax.Literal t v) = expr.literal t v
tree_of trees (ax.Cast e t) = expr.cast (tree_at trees e) t
tree_of trees (ax.BinaryExpr l op r) = expr.binary (tree_at trees l) op (tree_at trees r)
tree_of trees (ax.Ternary p truthy falsy) =
    expr.ternary (tree_at trees p) (tree_at trees truthy) (tree_at trees falsy)
tree_of trees (ax.Alias e name) = expr.alias (tree_at trees e) name
tree_of trees (ax.Agg a) = expr.aggregate (aggregation a) (tree_at trees (agg_input a))
tree_of trees ax.Len = expr.len
tree_of trees (ax.Filter e by) = expr.filter (tree_at trees e) (tree_at trees by)
tree_of trees (ax.Sort e) = expr.sort (tree_at trees e)

-- the trees of an arena's nodes, in order
abbrev pub trees : List AExpr → List Expr
trees exprs = fold (λ ts e. ts ++ tree_of ts e ∷ []) [] exprs

-- the tree of a node of an arena
abbrev pub tree : List AExpr → Node → Expr
tree exprs n = tree_at (trees exprs) n
