-- The trees of an arena with one more expression, and the tree of each of its nodes.
use Rattle.std.proofs.Common.{◌≡◌, ◌+◌, ◌<◌, ◌&&◌, ◌∙◌, ℕ, zero, suc, List, [], ◌∷◌, ◌++◌, length, Bool, true, false, refl, ap, arith}
use Rattle.std.proofs.lemmas.Bool.{and_parts}
use Rattle.std.specs.Prelude.{fold, slice_get, unwrap_or, nat_lt, Option, Some, None, map, option_map}
use Rattle.std.proofs.lemmas.List.Sums.{fold_push}
use Rattle.std.proofs.lemmas.Option.{slice_get-map}
use Rattle.pipe_exprs.specs.declared.expression.AExpr.{AExpr}
use Rattle.pipe_exprs.specs.declared.expression.AExpr.TheVariants as ax
use Rattle.pipe_exprs.specs.declared.expression.Node.{Node}
use Rattle.pipe_model.specs.Expr.{Expr}
use Rattle.pipe_model.specs.Expr as expr
use Rattle.pipe_exprs.specs.Trees.{IsArena, aggregation, agg_input, arena_from, children_below, tree, tree_at, tree_of, trees}

-- one more expression is one more tree
pub trees_push : (es : List AExpr) (e : AExpr) → trees (es ++ (e ∷ [])) ≡ trees es ++ (tree_of (trees es) e ∷ [])
trees_push es e = fold_push (λ ts x. ts ++ (tree_of ts x ∷ [])) [] es e

-- the trees of expressions behind those of earlier ones
abbrev pub trees_from : List Expr → List AExpr → List Expr
trees_from ts es = fold (λ us x. us ++ (tree_of us x ∷ [])) ts es

pub slice_get-push : {X : Type 0} (xs : List X) (y : X) → slice_get (xs ++ (y ∷ [])) (length xs) ≡ Some y
slice_get-push [] y = refl
slice_get-push (x ∷ xs) y = slice_get-push xs y

pub slice_get-append : {X : Type 0} (xs ys : List X) (k : ℕ) → k < length xs → slice_get (xs ++ ys) k ≡ slice_get xs k
slice_get-append [] ys k h = absurd (omega arith)
slice_get-append (x ∷ xs) ys zero h = refl
slice_get-append (x ∷ xs) ys (suc k) h = slice_get-append xs ys k (omega arith)

length-push : {X : Type 0} (xs : List X) (y : X) → length (xs ++ (y ∷ [])) ≡ length xs + 1
length-push [] y = refl
length-push (x ∷ xs) y = omega (arith, length-push xs y)

-- there are as many trees as expressions
pub length-trees_from : (ts : List Expr) (es : List AExpr) → length (trees_from ts es) ≡ length ts + length es
length-trees_from ts [] = omega arith
length-trees_from ts (e ∷ es) =
    omega (arith, length-trees_from (ts ++ (tree_of ts e ∷ [])) es, length-push ts (tree_of ts e))

pub length-trees : (es : List AExpr) → length (trees es) ≡ length es
length-trees es = omega (arith, length-trees_from [] es)

-- more expressions leave the trees of the earlier ones as they are
pub trees_keep : (ts : List Expr) (es : List AExpr) (k : ℕ) → k < length ts → slice_get (trees_from ts es) k ≡ slice_get ts k
trees_keep ts [] k h = refl
trees_keep ts (e ∷ es) k h =
    let more : k < length (ts ++ (tree_of ts e ∷ [])) = omega (arith, length-push ts (tree_of ts e)) in
    trees_keep (ts ++ (tree_of ts e ∷ [])) es k more ∙ slice_get-append ts (tree_of ts e ∷ []) k h

-- lists of trees that are the same below n
abbrev pub SameBelow : ℕ → List Expr → List Expr → Type 0
SameBelow n ts us = (k : ℕ) → k < n → slice_get us k ≡ slice_get ts k

node_same : (n : ℕ) (ts us : List Expr) (c : Node) (b : Bool) → SameBelow n ts us → (nat_lt c.0 n && b) ≡ true → tree_at us c ≡ tree_at ts c
node_same n ts us c b same h =
    let below : c.0 < n = grind (arith, and_parts (nat_lt c.0 n) b h) in
    ap (λ t. unwrap_or t expr.len) (same c.0 below)

-- the tree of an expression stands on the trees below it alone
pub tree_of_same : (n : ℕ) (ts us : List Expr) (e : AExpr) → SameBelow n ts us → children_below n e ≡ true → tree_of us e ≡ tree_of ts e
tree_of_same n ts us (ax.Column name) same h = refl
tree_of_same n ts us (ax.Literal t v) same h = refl
tree_of_same n ts us (ax.Cast e t) same h = ap (λ x. expr.cast x t) (node_same n ts us e true same h)
tree_of_same n ts us (ax.BinaryExpr l o r) same h =
    let left = node_same n ts us l (nat_lt r.0 n && true) same h in
    let rest = and_parts (nat_lt l.0 n) (nat_lt r.0 n && true) h in
    let right = node_same n ts us r true same rest.1 in
    cc
tree_of_same n ts us (ax.Ternary p t f) same h =
    let first = node_same n ts us p (nat_lt t.0 n && (nat_lt f.0 n && true)) same h in
    let rest = and_parts (nat_lt p.0 n) (nat_lt t.0 n && (nat_lt f.0 n && true)) h in
    let second = node_same n ts us t (nat_lt f.0 n && true) same rest.1 in
    let last = and_parts (nat_lt t.0 n) (nat_lt f.0 n && true) rest.1 in
    let third = node_same n ts us f true same last.1 in
    cc
tree_of_same n ts us (ax.Alias e name) same h = ap (λ x. expr.alias x name) (node_same n ts us e true same h)
tree_of_same n ts us (ax.Agg a) same h =
    ap (λ x. expr.aggregate (aggregation a) x) (node_same n ts us (agg_input a) true same h)
tree_of_same n ts us ax.Len same h = refl
tree_of_same n ts us (ax.Filter e by) same h =
    let left = node_same n ts us e (nat_lt by.0 n && true) same h in
    let rest = and_parts (nat_lt e.0 n) (nat_lt by.0 n && true) h in
    let right = node_same n ts us by true same rest.1 in
    cc
tree_of_same n ts us (ax.Sort e) same h = ap expr.sort (node_same n ts us e true same h)

-- the tree behind those of earlier expressions, at each place
tree_from_is : (n : ℕ) (ts : List Expr) (es : List AExpr) (i : ℕ) (e : AExpr) → length ts ≡ n → arena_from n es ≡ true
    → slice_get es i ≡ Some e → slice_get (trees_from ts es) (n + i) ≡ Some (tree_of (trees_from ts es) e)
tree_from_is n ts [] i e size is at = cc at
tree_from_is n ts (x ∷ es) zero e size is at =
    let us : List Expr = ts ++ (tree_of ts x ∷ []) in
    let all : List Expr = trees_from us es in
    let more : length us ≡ n + 1 = omega (arith, length-push ts (tree_of ts x)) in
    let kept : slice_get all n ≡ slice_get us n = trees_keep us es n (omega arith) in
    let here : slice_get us (length ts) ≡ Some (tree_of ts x) = slice_get-push ts (tree_of ts x) in
    let same : SameBelow n ts all = λ k h.
    trees_keep us es k (omega arith) ∙ slice_get-append ts (tree_of ts x ∷ []) k (omega arith) in
    let built : tree_of all x ≡ tree_of ts x = tree_of_same n ts all x same (and_parts (children_below n x) (arena_from (n + 1) es) is).0 in
    let there : n + zero ≡ n = omega arith in
    rw there (cc)
tree_from_is n ts (x ∷ es) (suc i) e size is at =
    let us : List Expr = ts ++ (tree_of ts x ∷ []) in
    let more : length us ≡ n + 1 = omega (arith, length-push ts (tree_of ts x)) in
    let there : n + suc i ≡ (n + 1) + i = omega arith in
    rw there (tree_from_is (n + 1) us es i e more (and_parts (children_below n x) (arena_from (n + 1) es) is).1 at)

-- the tree of a node is that of its expression over all trees of the arena
pub tree_is : (es : List AExpr) (n : Node) (e : AExpr) → IsArena es → slice_get es n.0 ≡ Some e → tree es n ≡ tree_of (trees es) e
tree_is es n e is at =
    let there : zero + n.0 ≡ n.0 = omega arith in
    let found = tree_from_is zero [] es n.0 e refl is at in
    ap (λ t. unwrap_or t expr.len) (rw there at found)

mapped_or : {X : Type 0} (f : Expr → X) (t : Option Expr) → unwrap_or (option_map f t) (f expr.len) ≡ f (unwrap_or t expr.len)
mapped_or f None = refl
mapped_or f (Some t) = refl

-- what is known of each tree, read at a node
pub mapped_at : {X : Type 0} (f : Expr → X) (ts : List Expr) (n : Node) → unwrap_or (slice_get (map f ts) n.0) (f expr.len) ≡ f (tree_at ts n)
mapped_at f ts n = rw (slice_get-map f ts n.0) (mapped_or f (slice_get ts n.0))
