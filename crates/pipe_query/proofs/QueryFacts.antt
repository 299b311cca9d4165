-- A query's arena, as the expressions of two lists are added to it.
use Rattle.std.proofs.Common.{◌≡◌, ◌+◌, ◌≤◌, ◌<◌, ◌++◌, ℕ, true, nat_lt, List, [], ◌∷◌, length, map, Option, Some, None, refl, sym, ap, arith}
use Rattle.std.specs.List.{list_all}
use Rattle.std.proofs.lemmas.List.{append-nil, append_assoc, length-append}
use Rattle.std.proofs.lemmas.List.Folds.{list_all-append}
use Rattle.pipe_exprs.specs.declared.expression.AExpr.{AExpr}
use Rattle.pipe_exprs.specs.declared.expression.Node.{Node}
use Rattle.pipe_model.specs.Expr.{Expr}
use Rattle.pipe_exprs.specs.Trees.{tree}
use Rattle.pipe_query.specs.Added.{AreAdded}
use Rattle.pipe_query.specs.Flat.{flat, flat_all, root, roots}
use Rattle.pipe_query.proofs.FlatFacts.{grown, lt_true}
use Rattle.pipe_query.proofs.FlatTrees.{all_trees}

-- the nodes of two lists of trees
flat_append : (n : ℕ) (xs ys : List Expr) → flat_all n (xs ++ ys) ≡ flat_all n xs ++ flat_all (n + length (flat_all n xs)) ys
flat_append n [] ys = let none : n + 0 ≡ n = omega arith in rw none refl
flat_append n (x ∷ xs) ys =
    let next : root n x + 1 ≡ n + length (flat n x) = sym (grown n x) in
    let place : n + length (flat n x ++ flat_all (root n x + 1) xs) ≡ (root n x + 1) + length (flat_all (root n x + 1) xs) =
    rw length-append (omega (arith, next)) in
    rw (place, flat_append (root n x + 1) xs ys) (simp append_assoc refl)

-- roots stand before the end of their nodes
roots_below : (n k : ℕ) (es : List Expr) → n + length (flat_all n es) ≤ k → list_all (λ m. nat_lt m.0 k) (roots n es) ≡ true
roots_below n k [] h = refl
roots_below n k (e ∷ es) h =
    let size : n + (length (flat n e) + length (flat_all (root n e + 1) es)) ≤ k = rw length-append at h in
    let here : root n e < k = omega (arith, size, grown n e) in
    let rest : (root n e + 1) + length (flat_all (root n e + 1) es) ≤ k = omega (arith, size, grown n e) in
    rw (lt_true (root n e) k here) (roots_below (root n e + 1) k es rest)

-- the first list is that of the trees at its nodes, though more stand behind them
pub first_list : (k a : Option (List Expr)) (mid last : List AExpr) (kn an : List Node)
    → AreAdded k [] mid (Some kn) → AreAdded a mid last (Some an) → k ≡ Some (map (tree last) kn)
first_list None a mid last kn an h j = absurd h
first_list (Some ks) None mid last kn an h j = absurd j
first_list (Some ks) (Some es) mid last kn an h j =
    rw (j.0, h.1) (ap Some (sym (rw (← h.0) at (all_trees [] (flat_all (length mid) es) ks))))

-- the second list is that of the trees at its nodes
pub second_list : (a : Option (List Expr)) (mid last : List AExpr) (an : List Node)
    → AreAdded a mid last (Some an) → a ≡ Some (map (tree last) an)
second_list None mid last an j = absurd j
second_list (Some es) mid last an j =
    rw (j.0, j.1) (ap Some (sym (rw (append-nil (mid ++ flat_all (length mid) es)) at (all_trees mid [] es))))

-- both lists' nodes, one after the other
pub flat_lists : (k a : List Expr) (mid last : List AExpr) (kn an : List Node)
    → AreAdded (Some k) [] mid (Some kn) → AreAdded (Some a) mid last (Some an)
    → (last ≡ flat_all 0 (k ++ a)) × (kn ≡ roots 0 k) × (an ≡ roots (length (flat_all 0 k)) a)
flat_lists k a mid last kn an h j =
    let place : 0 + length (flat_all 0 k) ≡ length (flat_all 0 k) = omega arith in
    (rw (j.0, h.0) (sym (rw place at (flat_append 0 k a))), h.1, rw (← h.0) j.1)

-- all nodes are in the arena
pub nodes_there : (k a : List Expr) (mid last : List AExpr) (kn an : List Node)
    → AreAdded (Some k) [] mid (Some kn) → AreAdded (Some a) mid last (Some an)
    → list_all (λ m. nat_lt m.0 (length last)) (kn ++ an) ≡ true
nodes_there k a mid last kn an h j =
    let size : length last ≡ length mid + length (flat_all (length mid) a) = rw (j.0) (length-append _ _) in
    let early : length mid ≡ length (flat_all 0 k) = ap (λ (es : List AExpr). length es) h.0 in
    let first : list_all (λ m. nat_lt m.0 (length last)) kn ≡ true = rw (h.1) (roots_below 0 (length last) k (omega (arith, size, early))) in
    let second : list_all (λ m. nat_lt m.0 (length last)) an ≡ true = rw (j.1) (roots_below (length mid) (length last) a (omega (arith, size))) in
    rw (list_all-append (λ m. nat_lt m.0 (length last)) kn an, first, second) refl
