-- An arena that grew by the nodes of a list of trees.
use Rattle.std.proofs.Common.{◌≡◌, ◌+◌, ◌<◌, ◌≤◌, ◌++◌, ℕ, suc, List, [], ◌∷◌, length, drop, get_or, Option, Some, None, option_map, option_and_then, refl, sym, ap, ◌∙◌, add-one}
use Rattle.std.proofs.Math.ListN.{drop_of_length-le}
use Rattle.std.proofs.Math.Seq.{drop-cons}
use Rattle.std.proofs.lemmas.List.{append-nil, append_assoc}
use Rattle.serde_json.specs.Data.{item}
use Rattle.serde_json.specs.View.{items_view, view}
use Rattle.serde_json.specs.declared.value.Value.{Value}
use Rattle.pipe_exprs.specs.declared.expression.AExpr.{AExpr}
use Rattle.pipe_exprs.specs.declared.expression.Node.{Node}
use Rattle.pipe_model.specs.Expr.{Expr}
use Rattle.pipe_query.specs.ExprJson.{expr_of, exprs_of}
use Rattle.pipe_query.specs.Added.{AreAdded, IsAdded}
use Rattle.pipe_query.specs.Flat.{root}
use Rattle.pipe_query.proofs.FlatFacts.{length_with}

-- what an expression and then those of a list add
cons_added : (o : Option Expr) (rest : Option (List Expr)) (old mid last : List AExpr) (n : Node) (more : Option (List Node))
    → IsAdded o old mid (Some n) → AreAdded rest mid last more
    → AreAdded (option_and_then (λ e. option_map (λ es. e ∷ es) rest) o) old last (option_map (λ ns. n ∷ ns) more)
cons_added None rest old mid last n more h k = absurd h
cons_added (Some e) None old mid last n None h k = tt
cons_added (Some e) None old mid last n (Some ns) h k = absurd k
cons_added (Some e) (Some es) old mid last n None h k = absurd k
cons_added (Some e) (Some es) old mid last n (Some ns) h k =
    let long : length mid ≡ root (length old) e + 1 = length_with old mid e h.0 in
    (rw (k.0, long, h.0) (simp append_assoc refl), rw (k.1, long, h.1) refl)

-- what is no expression makes its list none
none_added : (o : Option Expr) (rest : Option (List Expr)) (old mid : List AExpr) → IsAdded o old mid None
    → AreAdded (option_and_then (λ e. option_map (λ es. e ∷ es) rest) o) old mid None
none_added None rest old mid h = tt
none_added (Some e) rest old mid h = absurd h

-- the items of a list from place i on
pub drop_view : (vs : List Value) (i : ℕ) (v : Value) → i < length vs → v ≡ get_or vs i v
    → items_view (drop i vs) ≡ item (view v) (items_view (drop (i + 1) vs))
drop_view vs i v h is =
    let next : drop i vs ≡ v ∷ drop (i + 1) vs = rw (add-one) (drop-cons vs i v h ∙ ap (λ (w : Value). w ∷ drop (suc i) vs) (sym is)) in
    rw next refl

-- whatever the rest of the list adds to the arena as it is, the whole list adds to the first
abbrev pub Adding : List Value → ℕ → List AExpr → List AExpr → List Node → Type 0
Adding vs i first now nodes = (last : List AExpr) (more : Option (List Node))
    → AreAdded (exprs_of (items_view (drop i vs))) now last more
    → AreAdded (exprs_of (items_view vs)) first last (option_map (λ ns. nodes ++ ns) more)

same_more : (nodes : List Node) (n : Node) (more : Option (List Node))
    → option_map (λ ns. nodes ++ ns) (option_map (λ ns. n ∷ ns) more) ≡ option_map (λ ns. (nodes ++ (n ∷ [])) ++ ns) more
same_more nodes n None = refl
same_more nodes n (Some ns) = rw append_assoc refl

-- one more item
pub adding_more : (vs : List Value) (i : ℕ) (v : Value) (n : Node) (first now next : List AExpr) (nodes all : List Node)
    → Adding vs i first now nodes → i < length vs → v ≡ get_or vs i v → IsAdded (expr_of (view v)) now next (Some n)
    → all ≡ nodes ++ n ∷ [] → Adding vs (i + 1) first next all
adding_more vs i v n first now next nodes all inv h is added grew last more rest =
    let step : AreAdded (exprs_of (items_view (drop i vs))) now last (option_map (λ ns. n ∷ ns) more) =
    rw (drop_view vs i v h is) (cons_added (expr_of (view v)) _ now next last n more added rest) in
    rw (grew, ← same_more nodes n more) (inv last _ step)

-- an item that is no expression
pub adding_none : (vs : List Value) (i : ℕ) (v : Value) (first now next : List AExpr) (nodes : List Node)
    → Adding vs i first now nodes → i < length vs → v ≡ get_or vs i v → IsAdded (expr_of (view v)) now next None
    → AreAdded (exprs_of (items_view vs)) first next None
adding_none vs i v first now next nodes inv h is added =
    inv next None (rw (drop_view vs i v h is) (none_added (expr_of (view v)) _ now next added))

-- the end of the list
pub adding_all : (vs : List Value) (i : ℕ) (first now : List AExpr) (nodes : List Node)
    → Adding vs i first now nodes → length vs ≤ i → AreAdded (exprs_of (items_view vs)) first now (Some nodes)
adding_all vs i first now nodes inv h =
    let none : drop i vs ≡ [] = drop_of_length-le vs h in
    rw (append-nil nodes) at (inv now (Some []) (rw none (sym (append-nil now), refl)))
