-- The tree of a root is the tree whose nodes were added.
use Rattle.std.proofs.Common.{◌≡◌, ◌+◌, ◌<◌, ◌++◌, ℕ, List, [], ◌∷◌, length, map, refl, sym, ap, ◌∙◌, arith}
use Rattle.std.specs.Prelude.{unwrap_or}
use Rattle.std.proofs.lemmas.List.{append_assoc, length-append}
use Rattle.std.proofs.lemmas.List.Sums.{fold-append}
use Rattle.pipe_exprs.specs.declared.expression.AExpr.{AExpr}
use Rattle.pipe_exprs.specs.declared.expression.AExpr.TheVariants as ax
use Rattle.pipe_exprs.specs.declared.expression.Node.{Node}
use Rattle.pipe_model.specs.Expr.{Aggregation, Expr}
use Rattle.pipe_model.specs.Expr as expr
use Rattle.pipe_exprs.specs.Trees.{agg_input, aggregation, tree, tree_of, trees}
use Rattle.pipe_exprs.proofs.TreeFacts.{length-trees, slice_get-push, trees_keep, trees_push}
use Rattle.pipe_query.specs.Flat.{agg_node, flat, flat_all, node, root, root_node, roots}
use Rattle.pipe_query.proofs.FlatFacts.{length_with}

-- the tree of a node stays as more expressions are added
tree_kept : (es more : List AExpr) (n : Node) → n.0 < length es → tree (es ++ more) n ≡ tree es n
tree_kept es more n h =
    let below : n.0 < length (trees es) = rw (length-trees es) h in
    rw (fold-append (λ ts x. ts ++ (tree_of ts x ∷ [])) [] es more) (ap (λ t. unwrap_or t expr.len) (trees_keep (trees es) more n.0 below))

-- the tree of the last node
last_tree : (es new : List AExpr) (x : AExpr) (n : ℕ) → new ≡ es ++ x ∷ [] → n ≡ length es → tree new (node n) ≡ tree_of (trees es) x
last_tree es new x n grew at =
    rw (grew, at, trees_push es x, ← length-trees es) (ap (λ t. unwrap_or t expr.len) (slice_get-push (trees es) (tree_of (trees es) x)))

same_aggregation : (a : Aggregation) (n : Node) → (aggregation (agg_node a n) ≡ a) × (agg_input (agg_node a n) ≡ n)
same_aggregation expr.sum n = (refl, refl)
same_aggregation expr.first n = (refl, refl)
same_aggregation expr.last n = (refl, refl)
same_aggregation expr.mean n = (refl, refl)
same_aggregation (expr.count b) n = (refl, refl)
same_aggregation (expr.min b) n = (refl, refl)
same_aggregation (expr.max b) n = (refl, refl)
same_aggregation expr.median n = (refl, refl)
same_aggregation expr.n_unique n = (refl, refl)

-- the tree at the root is the tree
pub flat_tree : (es : List AExpr) (e : Expr) → tree (es ++ flat (length es) e) (root_node (length es) e) ≡ e
flat_tree es (expr.column name) = last_tree es _ (ax.Column name) _ refl refl
flat_tree es (expr.literal t v) = last_tree es _ (ax.Literal t v) _ refl refl
flat_tree es expr.len = last_tree es _ ax.Len _ refl refl
flat_tree es (expr.cast e t) =
    let n : ℕ = length es in
    let mid : List AExpr = es ++ flat n e in
    last_tree mid _ (ax.Cast (root_node n e) t) _ (sym (append_assoc es (flat n e) _)) (sym (length_with es mid e refl))
    ∙ ap (λ x. expr.cast x t) (flat_tree es e)
flat_tree es (expr.alias e name) =
    let n : ℕ = length es in
    let mid : List AExpr = es ++ flat n e in
    last_tree mid _ (ax.Alias (root_node n e) name) _ (sym (append_assoc es (flat n e) _)) (sym (length_with es mid e refl))
    ∙ ap (λ x. expr.alias x name) (flat_tree es e)
flat_tree es (expr.sort e) =
    let n : ℕ = length es in
    let mid : List AExpr = es ++ flat n e in
    last_tree mid _ (ax.Sort (root_node n e)) _ (sym (append_assoc es (flat n e) _)) (sym (length_with es mid e refl))
    ∙ ap expr.sort (flat_tree es e)
flat_tree es (expr.aggregate a e) =
    let n : ℕ = length es in
    let mid : List AExpr = es ++ flat n e in
    let same = same_aggregation a (root_node n e) in
    let built : tree_of (trees mid) (ax.Agg (agg_node a (root_node n e))) ≡ expr.aggregate a (tree mid (root_node n e)) = rw (same.0, same.1) refl in
    last_tree mid _ (ax.Agg (agg_node a (root_node n e))) _ (sym (append_assoc es (flat n e) _)) (sym (length_with es mid e refl))
    ∙ built ∙ ap (expr.aggregate a) (flat_tree es e)
flat_tree es (expr.binary l o r) =
    let n : ℕ = length es in
    let mid : List AExpr = es ++ flat n l in
    let long : length mid ≡ root n l + 1 = length_with es mid l refl in
    let late : List AExpr = mid ++ flat (root n l + 1) r in
    let longer : length late ≡ root (root n l + 1) r + 1 = rw long at (length_with mid (mid ++ flat (length mid) r) r refl) in
    let left : tree late (root_node n l) ≡ l = tree_kept mid (flat (root n l + 1) r) (root_node n l) (omega (arith, long)) ∙ flat_tree es l in
    let right : tree late (root_node (root n l + 1) r) ≡ r = rw long at (flat_tree mid r) in
    last_tree late (es ++ flat n (expr.binary l o r)) (ax.BinaryExpr (root_node n l) o (root_node (root n l + 1) r)) (root n (expr.binary l o r)) (simp append_assoc refl) (sym longer)
    ∙ rw (left, right) refl
flat_tree es (expr.filter e by) =
    let n : ℕ = length es in
    let mid : List AExpr = es ++ flat n e in
    let long : length mid ≡ root n e + 1 = length_with es mid e refl in
    let late : List AExpr = mid ++ flat (root n e + 1) by in
    let longer : length late ≡ root (root n e + 1) by + 1 = rw long at (length_with mid (mid ++ flat (length mid) by) by refl) in
    let left : tree late (root_node n e) ≡ e = tree_kept mid (flat (root n e + 1) by) (root_node n e) (omega (arith, long)) ∙ flat_tree es e in
    let right : tree late (root_node (root n e + 1) by) ≡ by = rw long at (flat_tree mid by) in
    last_tree late (es ++ flat n (expr.filter e by)) (ax.Filter (root_node n e) (root_node (root n e + 1) by)) (root n (expr.filter e by)) (simp append_assoc refl) (sym longer)
    ∙ rw (left, right) refl
flat_tree es (expr.ternary p t f) =
    let n : ℕ = length es in
    let mid : List AExpr = es ++ flat n p in
    let long : length mid ≡ root n p + 1 = length_with es mid p refl in
    let m : ℕ = root n p + 1 in
    let late : List AExpr = mid ++ flat m t in
    let longer : length late ≡ root m t + 1 = rw long at (length_with mid (mid ++ flat (length mid) t) t refl) in
    let k : ℕ = root m t + 1 in
    let final : List AExpr = late ++ flat k f in
    let longest : length final ≡ root k f + 1 = rw longer at (length_with late (late ++ flat (length late) f) f refl) in
    let more : length late ≡ length mid + length (flat m t) = simp length-append refl in
    let first : tree final (root_node n p) ≡ p =
    tree_kept late (flat k f) (root_node n p) (omega (arith, long, more)) ∙ tree_kept mid (flat m t) (root_node n p) (omega (arith, long)) ∙ flat_tree es p in
    let second : tree final (root_node m t) ≡ t = tree_kept late (flat k f) (root_node m t) (omega (arith, longer)) ∙ (rw long at (flat_tree mid t)) in
    let third : tree final (root_node k f) ≡ f = rw longer at (flat_tree late f) in
    last_tree final (es ++ flat n (expr.ternary p t f)) (ax.Ternary (root_node n p) (root_node m t) (root_node k f)) (root n (expr.ternary p t f)) (simp append_assoc refl) (sym longest)
    ∙ rw (first, second, third) refl

-- the trees at the roots of some trees, with more expressions behind them
pub all_trees : (es more : List AExpr) (ks : List Expr) → map (tree ((es ++ flat_all (length es) ks) ++ more)) (roots (length es) ks) ≡ ks
all_trees es more [] = refl
all_trees es more (k ∷ ks) =
    let mid : List AExpr = es ++ flat (length es) k in
    let long : length mid ≡ root (length es) k + 1 = length_with es mid k refl in
    let m : ℕ = root (length es) k + 1 in
    let whole : List AExpr = mid ++ (flat_all m ks ++ more) in
    let here : tree whole (root_node (length es) k) ≡ k =
    tree_kept mid (flat_all m ks ++ more) (root_node (length es) k) (omega (arith, long)) ∙ flat_tree es k in
    let later : map (tree ((mid ++ flat_all m ks) ++ more)) (roots m ks) ≡ ks = rw long at (all_trees mid more ks) in
    let also : (mid ++ flat_all m ks) ++ more ≡ whole = append_assoc mid (flat_all m ks) more in
    let rest : map (tree whole) (roots m ks) ≡ ks = rw also at later in
    let same : (es ++ flat_all (length es) (k ∷ ks)) ++ more ≡ whole = simp append_assoc refl in
    let both : map (tree whole) (roots (length es) (k ∷ ks)) ≡ k ∷ ks = rw (here, rest) refl in
    ap (λ (xs : List AExpr). map (tree xs) (roots (length es) (k ∷ ks))) same ∙ both
