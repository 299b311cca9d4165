-- An arena that grew by the nodes of trees.
use Rattle.std.proofs.Common.{◌≡◌, ◌+◌, ◌<◌, ◌≤◌, ◌++◌, ◌&&◌, ℕ, true, List, [], ◌∷◌, length, nat_lt, Option, Some, None, option_map, option_and_then, refl, arith}
use Rattle.std.proofs.lemmas.List.{append_assoc, length-append}
use Rattle.pipe_exprs.specs.declared.expression.Node.{Node}
use Rattle.pipe_exprs.specs.declared.expression.AExpr.{AExpr}
use Rattle.pipe_exprs.specs.Trees.{children_below}
use Rattle.pipe_model.specs.Expr.{Expr}
use Rattle.pipe_model.specs.Expr as expr
use Rattle.pipe_query.specs.declared.json_names.Over.{Over}
use Rattle.pipe_query.specs.declared.json_names.Over.TheVariants as over
use Rattle.pipe_query.specs.ExprJson.{over_expr}
use Rattle.pipe_query.specs.Added.{IsAdded, over_ax}
use Rattle.pipe_query.specs.Flat.{flat, node, root, root_node}

-- a tree's nodes end at its root
pub grown : (n : ℕ) (e : Expr) → n + length (flat n e) ≡ root n e + 1
grown n (expr.column name) = refl
grown n (expr.literal t v) = refl
grown n (expr.cast e t) = simp length-append (omega (arith, grown n e))
grown n (expr.binary l o r) = simp length-append (omega (arith, grown n l, grown (root n l + 1) r))
grown n (expr.ternary p t f) =
    simp length-append (omega (arith, grown n p, grown (root n p + 1) t, grown (root (root n p + 1) t + 1) f))
grown n (expr.alias e name) = simp length-append (omega (arith, grown n e))
grown n (expr.aggregate a e) = simp length-append (omega (arith, grown n e))
grown n expr.len = refl
grown n (expr.filter e by) = simp length-append (omega (arith, grown n e, grown (root n e + 1) by))
grown n (expr.sort e) = simp length-append (omega (arith, grown n e))

-- an arena with a tree ends at its root
pub length_with : (old new : List AExpr) (e : Expr) → new ≡ old ++ flat (length old) e → length new ≡ root (length old) e + 1
length_with old new e h = rw (h, length-append) (grown (length old) e)

-- the node that was added is in the arena
pub added_below : (o : Option Expr) (old new : List AExpr) (n : Node) → IsAdded o old new (Some n) → n.0 < length new
added_below None old new n h = absurd h
added_below (Some e) old new n h = rw (length_with old new e h.0, h.1) (omega arith)

-- an arena that grew is no shorter
pub added_longer : (o : Option Expr) (old new : List AExpr) (n : Node) → IsAdded o old new (Some n) → length old ≤ length new
added_longer None old new n h = absurd h
added_longer (Some e) old new n h =
    rw (length_with old new e h.0) (omega (arith, grown (length old) e))

-- what a node of one child adds
pub one_added : (f : Node → AExpr) (g : Expr → Expr)
    → ((n : ℕ) (e : Expr) → flat n (g e) ≡ flat n e ++ f (root_node n e) ∷ []) → ((n : ℕ) (e : Expr) → root n (g e) ≡ root n e + 1)
    → (o : Option Expr) (old mid new : List AExpr) (a m : Node)
    → IsAdded o old mid (Some a) → new ≡ mid ++ f a ∷ [] → m ≡ node (length mid)
    → IsAdded (option_map g o) old new (Some m)
one_added f g nodes ends None old mid new a m h grew at = absurd h
one_added f g nodes ends (Some e) old mid new a m h grew at =
    let long : length mid ≡ root (length old) e + 1 = length_with old mid e h.0 in
    (rw (grew, h.0, h.1, nodes) (simp append_assoc refl), rw (at, long, ends) refl)

-- what a node of two children adds
pub two_added : (f : Node → Node → AExpr) (g : Expr → Expr → Expr)
    → ((n : ℕ) (l r : Expr) → flat n (g l r) ≡ flat n l ++ flat (root n l + 1) r ++ f (root_node n l) (root_node (root n l + 1) r) ∷ [])
    → ((n : ℕ) (l r : Expr) → root n (g l r) ≡ root (root n l + 1) r + 1)
    → (o p : Option Expr) (old mid late new : List AExpr) (a b m : Node)
    → IsAdded o old mid (Some a) → IsAdded p mid late (Some b) → new ≡ late ++ f a b ∷ [] → m ≡ node (length late)
    → IsAdded (option_and_then (λ l. option_map (g l) p) o) old new (Some m)
two_added f g nodes ends None p old mid late new a b m h k grew at = absurd h
two_added f g nodes ends (Some l) None old mid late new a b m h k grew at = absurd k
two_added f g nodes ends (Some l) (Some r) old mid late new a b m h k grew at =
    let long : length mid ≡ root (length old) l + 1 = length_with old mid l h.0 in
    let longer : length late ≡ root (length mid) r + 1 = length_with mid late r k.0 in
    (rw (grew, k.0, k.1, long, h.0, h.1, nodes) (simp append_assoc refl), rw (at, longer, long, ends) refl)

-- what a node of three children adds
pub three_added : (f : Node → Node → Node → AExpr) (g : Expr → Expr → Expr → Expr)
    → ((n : ℕ) (x y z : Expr) → flat n (g x y z) ≡ flat n x ++ flat (root n x + 1) y ++ flat (root (root n x + 1) y + 1) z
    ++ f (root_node n x) (root_node (root n x + 1) y) (root_node (root (root n x + 1) y + 1) z) ∷ [])
    → ((n : ℕ) (x y z : Expr) → root n (g x y z) ≡ root (root (root n x + 1) y + 1) z + 1)
    → (o p q : Option Expr) (old mid late last new : List AExpr) (a b c m : Node)
    → IsAdded o old mid (Some a) → IsAdded p mid late (Some b) → IsAdded q late last (Some c)
    → new ≡ last ++ f a b c ∷ [] → m ≡ node (length last)
    → IsAdded (option_and_then (λ x. option_and_then (λ y. option_map (g x y) q) p) o) old new (Some m)
three_added f g nodes ends None p q old mid late last new a b c m h k j grew at = absurd h
three_added f g nodes ends (Some x) None q old mid late last new a b c m h k j grew at = absurd k
three_added f g nodes ends (Some x) (Some y) None old mid late last new a b c m h k j grew at = absurd j
three_added f g nodes ends (Some x) (Some y) (Some z) old mid late last new a b c m h k j grew at =
    let long : length mid ≡ root (length old) x + 1 = length_with old mid x h.0 in
    let longer : length late ≡ root (length mid) y + 1 = length_with mid late y k.0 in
    let longest : length last ≡ root (length late) z + 1 = length_with late last z j.0 in
    (rw (grew, j.0, j.1, longer, k.0, k.1, long, h.0, h.1, nodes) (simp append_assoc refl), rw (at, longest, longer, long, ends) refl)

-- what an aggregate or a sort adds
pub over_nodes : (o : Over) (n : ℕ) (e : Expr) → flat n (over_expr o e) ≡ flat n e ++ over_ax o (root_node n e) ∷ []
over_nodes over.Sum n e = refl
over_nodes over.First n e = refl
over_nodes over.Last n e = refl
over_nodes over.Mean n e = refl
over_nodes over.Min n e = refl
over_nodes over.Max n e = refl
over_nodes over.Count n e = refl
over_nodes over.CountAll n e = refl
over_nodes over.Median n e = refl
over_nodes over.NUnique n e = refl
over_nodes over.Sort n e = refl

pub over_root : (o : Over) (n : ℕ) (e : Expr) → root n (over_expr o e) ≡ root n e + 1
over_root over.Sum n e = refl
over_root over.First n e = refl
over_root over.Last n e = refl
over_root over.Mean n e = refl
over_root over.Min n e = refl
over_root over.Max n e = refl
over_root over.Count n e = refl
over_root over.CountAll n e = refl
over_root over.Median n e = refl
over_root over.NUnique n e = refl
over_root over.Sort n e = refl

-- a node of one child that was added
pub lt_true : (a b : ℕ) → a < b → nat_lt a b ≡ true
lt_true a b h = grind (arith, h)

pub one_below : (o : Option Expr) (old new : List AExpr) (n : Node) → IsAdded o old new (Some n) → (nat_lt n.0 (length new) && true) ≡ true
one_below o old new n h = rw (lt_true n.0 (length new) (added_below o old new n h)) refl

-- nodes of two children that were added
pub two_below : (o p : Option Expr) (old mid new : List AExpr) (a b : Node) → IsAdded o old mid (Some a) → IsAdded p mid new (Some b)
    → (nat_lt a.0 (length new) && (nat_lt b.0 (length new) && true)) ≡ true
two_below o p old mid new a b h k =
    let first : a.0 < length new = omega (arith, added_below o old mid a h, added_longer p mid new b k) in
    rw (lt_true a.0 (length new) first, lt_true b.0 (length new) (added_below p mid new b k)) refl

-- nodes of three children that were added
pub three_below : (o p q : Option Expr) (old mid late new : List AExpr) (a b c : Node)
    → IsAdded o old mid (Some a) → IsAdded p mid late (Some b) → IsAdded q late new (Some c)
    → (nat_lt a.0 (length new) && (nat_lt b.0 (length new) && (nat_lt c.0 (length new) && true))) ≡ true
three_below o p q old mid late new a b c h k j =
    let longer : length late ≤ length new = added_longer q late new c j in
    let first : a.0 < length new = omega (arith, longer, added_below o old mid a h, added_longer p mid late b k) in
    let second : b.0 < length new = omega (arith, longer, added_below p mid late b k) in
    rw (lt_true a.0 (length new) first, lt_true b.0 (length new) second, lt_true c.0 (length new) (added_below q late new c j)) refl

-- the child of an aggregate or a sort
pub over_below : (o : Over) (n : Node) (k : ℕ) → (nat_lt n.0 k && true) ≡ true → children_below k (over_ax o n) ≡ true
over_below over.Sum n k h = h
over_below over.First n k h = h
over_below over.Last n k h = h
over_below over.Mean n k h = h
over_below over.Min n k h = h
over_below over.Max n k h = h
over_below over.Count n k h = h
over_below over.CountAll n k h = h
over_below over.Median n k h = h
over_below over.NUnique n k h = h
over_below over.Sort n k h = h
