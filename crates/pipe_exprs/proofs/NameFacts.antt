-- Names that are read off an arena's expressions are those of its trees.
use Rattle.std.proofs.Common.{◌≡◌, ◌+◌, ◌<◌, ◌≤◌, ◌&&◌, ◌∙◌, ℕ, zero, suc, List, [], ◌∷◌, length, Bool, true, refl, ap, sym, arith}
use Rattle.std.proofs.lemmas.Bool.{and_parts}
use Rattle.std.specs.Prelude.{slice_get, Option, Some, None, nat_lt, unwrap_or}
use Rattle.std.proofs.lemmas.Option.{same_Some, slice_get_past}
use Rattle.pipe_exprs.specs.declared.expression.AExpr.{AExpr}
use Rattle.pipe_exprs.specs.declared.expression.AExpr.TheVariants as ax
use Rattle.pipe_exprs.specs.declared.expression.Node.{Node}
use Rattle.pipe_model.specs.Expr.{Expr, name_of}
use Rattle.pipe_model.specs.Expr as expr
use Rattle.pipe_exprs.specs.Nodes.{name_giver, own_name, tree_if}
use Rattle.pipe_exprs.specs.Trees.{agg_input, children_below, IsArena, tree, tree_at, trees}
use Rattle.pipe_exprs.proofs.PassFacts.{children_at}
use Rattle.pipe_exprs.proofs.TreeFacts.{length-trees, tree_is}

first_below : (n : ℕ) (c m : Node) (b : Bool) → (nat_lt c.0 n && b) ≡ true → Some c ≡ Some m → m.0 < n
first_below n c m b h same =
    let e : c ≡ m = same_Some c m same in
    let below : c.0 < n = grind (arith, and_parts (nat_lt c.0 n) b h) in
    rw (← e) below

giver_below : (n : ℕ) (e : AExpr) (m : Node) → children_below n e ≡ true → name_giver (Some e) ≡ Some m → m.0 < n
giver_below n (ax.Column name) m h g = cc g
giver_below n (ax.Literal t v) m h g = cc g
giver_below n (ax.Cast e t) m h g = first_below n e m true h g
giver_below n (ax.BinaryExpr l o r) m h g = first_below n l m (nat_lt r.0 n && true) h g
giver_below n (ax.Ternary p t f) m h g =
    first_below n t m (nat_lt f.0 n && true) (and_parts (nat_lt p.0 n) (nat_lt t.0 n && (nat_lt f.0 n && true)) h).1 g
giver_below n (ax.Alias e name) m h g = cc g
giver_below n (ax.Agg a) m h g = first_below n (agg_input a) m true h g
giver_below n ax.Len m h g = cc g
giver_below n (ax.Filter e by) m h g = first_below n e m (nat_lt by.0 n && true) h g
giver_below n (ax.Sort e) m h g = first_below n e m true h g

-- a node whose name is taken stands before
pub giver_before : (es : List AExpr) (n m : Node) (o : Option AExpr) → IsArena es → o ≡ slice_get es n.0 → name_giver o ≡ Some m → m.0 < n.0
giver_before es n m None arena at g = cc g
giver_before es n m (Some e) arena at g =
    let start : zero + n.0 ≡ n.0 = omega arith in
    let below : children_below n.0 e ≡ true = rw start at (children_at zero es n.0 e arena (sym at)) in
    giver_below n.0 e m below g

giver_named : (ts : List Expr) (o : Option AExpr) (m : Node) → name_giver o ≡ Some m → name_of (tree_if ts o) ≡ name_of (tree_at ts m)
giver_named ts None m h = cc h
giver_named ts (Some (ax.Column name)) m h = cc h
giver_named ts (Some (ax.Literal t v)) m h = cc h
giver_named ts (Some (ax.Cast e t)) m h = ap (λ x. name_of (tree_at ts x)) (same_Some e m h)
giver_named ts (Some (ax.BinaryExpr l o r)) m h = ap (λ x. name_of (tree_at ts x)) (same_Some l m h)
giver_named ts (Some (ax.Ternary p t f)) m h = ap (λ x. name_of (tree_at ts x)) (same_Some t m h)
giver_named ts (Some (ax.Alias e name)) m h = cc h
giver_named ts (Some (ax.Agg a)) m h = ap (λ x. name_of (tree_at ts x)) (same_Some (agg_input a) m h)
giver_named ts (Some ax.Len) m h = cc h
giver_named ts (Some (ax.Filter e by)) m h = ap (λ x. name_of (tree_at ts x)) (same_Some e m h)
giver_named ts (Some (ax.Sort e)) m h = ap (λ x. name_of (tree_at ts x)) (same_Some e m h)

own_named : (ts : List Expr) (o : Option AExpr) → name_giver o ≡ None → name_of (tree_if ts o) ≡ own_name o
own_named ts None h = refl
own_named ts (Some (ax.Column name)) h = refl
own_named ts (Some (ax.Literal t v)) h = refl
own_named ts (Some (ax.Cast e t)) h = cc h
own_named ts (Some (ax.BinaryExpr l o r)) h = cc h
own_named ts (Some (ax.Ternary p t f)) h = cc h
own_named ts (Some (ax.Alias e name)) h = refl
own_named ts (Some (ax.Agg a)) h = cc h
own_named ts (Some ax.Len) h = refl
own_named ts (Some (ax.Filter e by)) h = cc h
own_named ts (Some (ax.Sort e)) h = cc h

none_past : {X : Type 0} (xs : List X) (i : ℕ) → slice_get xs i ≡ None → length xs ≤ i
none_past [] i h = omega arith
none_past (x ∷ xs) zero h = cc h
none_past (x ∷ xs) (suc i) h = omega (arith, none_past xs i h)

tree_found_as : (es : List AExpr) (n : Node) (o : Option AExpr) → IsArena es → slice_get es n.0 ≡ o → tree es n ≡ tree_if (trees es) o
tree_found_as es n None arena at =
    let past : length (trees es) ≤ n.0 = omega (arith, length-trees es, none_past es n.0 at) in
    ap (λ t. unwrap_or t expr.len) (slice_get_past (trees es) n.0 past)
tree_found_as es n (Some e) arena at = tree_is es n e arena at

-- the tree of a node, where it is there or not
pub tree_found : (es : List AExpr) (n : Node) → IsArena es → tree es n ≡ tree_if (trees es) (slice_get es n.0)
tree_found es n arena = tree_found_as es n (slice_get es n.0) arena refl

-- the same, where the expression at the node is given by another name
pub found_is : (es : List AExpr) (n : Node) (o : Option AExpr) → IsArena es → o ≡ slice_get es n.0 → tree es n ≡ tree_if (trees es) o
found_is es n o arena at = tree_found es n arena ∙ ap (tree_if (trees es)) (sym at)

-- a node whose name is taken has the name
pub giver_is : (es : List AExpr) (n m : Node) (o : Option AExpr) → IsArena es → o ≡ slice_get es n.0 → name_giver o ≡ Some m
    → name_of (tree es m) ≡ name_of (tree es n)
giver_is es n m o arena at g = rw (found_is es n o arena at) (sym (giver_named (trees es) o m g))

-- a node that takes no name has its own
pub own_name_is : (es : List AExpr) (n : Node) (o : Option AExpr) → IsArena es → o ≡ slice_get es n.0 → name_giver o ≡ None
    → own_name o ≡ name_of (tree es n)
own_name_is es n o arena at g = rw (found_is es n o arena at) (sym (own_named (trees es) o g))
