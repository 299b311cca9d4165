-- What is known of an arena's nodes, one node after the other.
use Rattle.std.proofs.Common.{◌≡◌, ◌+◌, ℕ, zero, suc, List, [], ◌∷◌, ◌++◌, take, true, refl, ap, arith}
use Rattle.std.proofs.lemmas.Bool.{and_parts}
use Rattle.std.specs.Prelude.{slice_get, Some, map}
use Rattle.pipe_columns.specs.declared.schema.Field.{Field}
use Rattle.pipe_exprs.specs.declared.expression.AExpr.{AExpr}
use Rattle.pipe_exprs.specs.declared.expression.AExpr.TheVariants as ax
use Rattle.pipe_exprs.specs.declared.expression.Node.{Node}
use Rattle.pipe_exprs.specs.declared.facts.NodeFacts.{NodeFacts}
use Rattle.pipe_model.specs.Expr.{Expr}
use Rattle.pipe_exprs.specs.ExprFacts.{expr_facts}
use Rattle.pipe_exprs.specs.NodeFacts.{facts_at, facts_of}
use Rattle.pipe_model.specs.Typing.{type_of}
use Rattle.pipe_exprs.specs.Trees.{agg_input, arena_from, children_below, tree_at, tree_of, trees}
use Rattle.pipe_exprs.proofs.TreeFacts.{mapped_at, trees_push}

-- what is known of a node is what is known of its tree
pub known_at : (schema : List Field) (ts : List Expr) (n : Node) → facts_at (map (facts_of schema) ts) n ≡ facts_of schema (tree_at ts n)
known_at schema ts n = mapped_at (facts_of schema) ts n

-- what is known of an expression is what is known of its tree
pub known_next : (schema : List Field) (ts : List Expr) (e : AExpr) → expr_facts schema (map (facts_of schema) ts) e ≡ facts_of schema (tree_of ts e)
known_next schema ts (ax.Column name) = refl
known_next schema ts (ax.Literal t v) = refl
known_next schema ts (ax.Cast e t) = rw (known_at schema ts e) refl
known_next schema ts (ax.BinaryExpr l o r) = rw (known_at schema ts l, known_at schema ts r) refl
known_next schema ts (ax.Ternary p t f) = rw (known_at schema ts p, known_at schema ts t, known_at schema ts f) refl
known_next schema ts (ax.Alias e name) = known_at schema ts e
known_next schema ts (ax.Agg a) = rw (known_at schema ts (agg_input a)) refl
known_next schema ts ax.Len = refl
known_next schema ts (ax.Filter e by) = rw (known_at schema ts e, known_at schema ts by) refl
known_next schema ts (ax.Sort e) = rw (known_at schema ts e) refl

map-push : {X Y : Type 0} (f : X → Y) (xs : List X) (x : X) → map f (xs ++ (x ∷ [])) ≡ map f xs ++ (f x ∷ [])
map-push f [] x = refl
map-push f (y ∷ ys) x = ap (λ zs. f y ∷ zs) (map-push f ys x)

-- one more element of a list
pub take_with : {X : Type 0} (xs : List X) (i : ℕ) (x : X) → slice_get xs i ≡ Some x → take (i + 1) xs ≡ take i xs ++ (x ∷ [])
take_with [] i x at = cc at
take_with (y ∷ ys) zero x at = grind arith
take_with (y ∷ ys) (suc i) x at =
    let next : suc i + 1 ≡ suc (i + 1) = omega arith in
    rw next (ap (λ zs. y ∷ zs) (take_with ys i x at))

-- a node names only nodes before it
pub children_at : (n : ℕ) (es : List AExpr) (i : ℕ) (e : AExpr) → arena_from n es ≡ true → slice_get es i ≡ Some e → children_below (n + i) e ≡ true
children_at n [] i e is at = cc at
children_at n (x ∷ es) zero e is at =
    let same : n + zero ≡ n = omega arith in
    let here = (and_parts (children_below n x) (arena_from (n + 1) es) is).0 in
    rw same (cc)
children_at n (x ∷ es) (suc i) e is at =
    let same : n + suc i ≡ (n + 1) + i = omega arith in
    rw same (children_at (n + 1) es i e (and_parts (children_below n x) (arena_from (n + 1) es) is).1 at)

-- what is known with one more node
pub known_more : (schema : List Field) (es : List AExpr) (i : ℕ) (e : AExpr) (known : List NodeFacts)
    → slice_get es i ≡ Some e → known ≡ map (facts_of schema) (trees (take i es))
    → known ++ (expr_facts schema known e ∷ []) ≡ map (facts_of schema) (trees (take (i + 1) es))
known_more schema es i e known at is =
    let front : List Expr = trees (take i es) in
    let next = known_next schema front e in
    let step = map-push (facts_of schema) front (tree_of front e) in
    rw (take_with es i e at, trees_push (take i es) e, step, is, next) refl

map-dtype : (schema : List Field) (ts : List Expr) → map (λ f. f.dtype) (map (facts_of schema) ts) ≡ map (λ e. type_of e schema) ts
map-dtype schema [] = refl
map-dtype schema (t ∷ ts) = ap (λ us. type_of t schema ∷ us) (map-dtype schema ts)

-- the types in what is known of all trees
pub types_known : (schema fields : List Field) (ts : List Expr) (known : List NodeFacts) → fields ≡ schema
    → known ≡ map (facts_of fields) ts → map (λ f. f.dtype) known ≡ map (λ e. type_of e schema) ts
types_known schema fields ts known same is = rw (is, same) (map-dtype schema ts)
