-- An arena that grows by one tree behind others.
use Rattle.std.proofs.Common.{◌≡◌, ◌∙◌, ◌+◌, ◌<◌, ◌++◌, ℕ, Bool, true, false, List, [], ◌∷◌, length, map, take, get_or, cond, Some, refl, sym, ap, subst, arith}
use Rattle.std.specs.Prelude.{filter}
use Rattle.std.proofs.lemmas.List.{append-nil, append_assoc, length-append, map-append}
use Rattle.std.proofs.lemmas.List.Elements.{filter_more}
use Rattle.pipe_exprs.specs.declared.expression.AExpr.{AExpr}
use Rattle.pipe_exprs.specs.declared.expression.Node.{Node}
use Rattle.pipe_model.specs.Expr.{Expr}
use Rattle.pipe_query.specs.Added.{AreAdded, IsAdded}
use Rattle.pipe_query.specs.Flat.{flat, flat_all, root, root_node, roots}
use Rattle.pipe_query.proofs.FlatFacts.{grown}

-- the nodes and the roots of trees and of one more
flat-more : (n : ℕ) (es : List Expr) (e : Expr) → flat_all n (es ++ e ∷ []) ≡ flat_all n es ++ flat (n + length (flat_all n es)) e
flat-more n [] e = let none : n + 0 ≡ n = omega arith in rw none (append-nil (flat n e))
flat-more n (x ∷ xs) e =
    let place : (root n x + 1) + length (flat_all (root n x + 1) xs) ≡ n + length (flat n x ++ flat_all (root n x + 1) xs) =
    rw length-append (omega (arith, grown n x)) in
    rw (flat-more (root n x + 1) xs e, place) (simp append_assoc refl)

roots-more : (n : ℕ) (es : List Expr) (e : Expr) → roots n (es ++ e ∷ []) ≡ roots n es ++ root_node (n + length (flat_all n es)) e ∷ []
roots-more n [] e = let none : n + 0 ≡ n = omega arith in rw none refl
roots-more n (x ∷ xs) e =
    let place : (root n x + 1) + length (flat_all (root n x + 1) xs) ≡ n + length (flat n x ++ flat_all (root n x + 1) xs) =
    rw length-append (omega (arith, grown n x)) in
    rw (roots-more (root n x + 1) xs e, place) refl

-- one tree more
pub added-more : (es : List Expr) (e : Expr) (old mid new : List AExpr) (ns all : List Node) (n : Node)
    → AreAdded (Some es) old mid (Some ns) → IsAdded (Some e) mid new (Some n) → all ≡ ns ++ n ∷ []
    → AreAdded (Some (es ++ e ∷ [])) old new (Some all)
added-more es e old mid new ns all n h k grew =
    let long : length mid ≡ length old + length (flat_all (length old) es) = ap (λ (x : List AExpr). length x) h.0 ∙ length-append old (flat_all (length old) es) in
    (rw (k.0, long, h.0, flat-more (length old) es e) (append_assoc old (flat_all (length old) es) _), rw (grew, h.1, k.1, long, roots-more (length old) es e) refl)

-- no tree yet
pub added-none : (old : List AExpr) → AreAdded (Some []) old old (Some [])
added-none old = (sym (append-nil old), refl)

module _ {X : Type 0} (f : X → Expr) (p : X → Bool) where
  -- what was added of the first elements
  abbrev pub AreAddedOf : List X → ℕ → List AExpr → List AExpr → List Node → Type 0
  AreAddedOf xs i old new ns = AreAdded (Some (map f (filter p (take i xs)))) old new (Some ns)

  -- an element more that is chosen
  pub chosen-more : (xs : List X) (i : ℕ) (x : X) (old mid new : List AExpr) (ns all : List Node) (n : Node)
      → i < length xs → x ≡ get_or xs i x → p x ≡ true → AreAddedOf xs i old mid ns → IsAdded (Some (f x)) mid new (Some n) → all ≡ ns ++ n ∷ []
      → AreAddedOf xs (i + 1) old new all
  chosen-more xs i x old mid new ns all n few is chosen h k grew =
      let here : cond (p (get_or xs i x)) (get_or xs i x ∷ []) [] ≡ x ∷ [] = ap (λ y. cond (p y) (y ∷ []) []) (sym is) ∙ ap (λ b. cond b (x ∷ []) []) chosen in
      let whole : filter p (take (i + 1) xs) ≡ filter p (take i xs) ++ x ∷ [] = filter_more p xs i x few ∙ ap (λ ys. filter p (take i xs) ++ ys) here in
      let trees : map f (filter p (take (i + 1) xs)) ≡ map f (filter p (take i xs)) ++ f x ∷ [] = ap (map f) whole ∙ map-append f (filter p (take i xs)) (x ∷ []) in
      subst (λ (es : List Expr). AreAdded (Some es) old new (Some all)) (sym trees) (added-more (map f (filter p (take i xs))) (f x) old mid new ns all n h k grew)

  -- an element more that isn't
  pub chosen-not : (xs : List X) (i : ℕ) (x : X) (old new : List AExpr) (ns : List Node)
      → i < length xs → x ≡ get_or xs i x → p x ≡ false → AreAddedOf xs i old new ns → AreAddedOf xs (i + 1) old new ns
  chosen-not xs i x old new ns few is not_chosen h =
      let here : cond (p (get_or xs i x)) (get_or xs i x ∷ []) [] ≡ [] = ap (λ y. cond (p y) (y ∷ []) []) (sym is) ∙ ap (λ b. cond b (x ∷ []) []) not_chosen in
      let whole : filter p (take (i + 1) xs) ≡ filter p (take i xs) = filter_more p xs i x few ∙ ap (λ ys. filter p (take i xs) ++ ys) here ∙ append-nil (filter p (take i xs)) in
      subst (λ (ys : List X). AreAdded (Some (map f ys)) old new (Some ns)) (sym whole) h
