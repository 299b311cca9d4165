-- The column that a node is under its aliases.
use Rattle.std.proofs.Common.{◌≡◌, ◌∙◌, ◌<◌, ℕ, List, [], Option, Some, None, refl, sym, ap}
use Rattle.std.specs.Prelude.{slice_get}
use Rattle.pipe_columns.specs.Frame.{ColumnData}
use Rattle.pipe_exprs.specs.declared.expression.AExpr.{AExpr}
use Rattle.pipe_exprs.specs.declared.expression.AExpr.TheVariants as ax
use Rattle.pipe_exprs.specs.declared.expression.Node.{Node}
use Rattle.pipe_exprs.specs.Evaluated.{keeps_sorted}
use Rattle.pipe_model.specs.Expr.{Expr}
use Rattle.pipe_exprs.specs.Nodes.{own_flag, tree_if}
use Rattle.pipe_exprs.specs.Trees.{alias_input, IsArena, tree, trees}
use Rattle.pipe_exprs.proofs.NameFacts.{tree_found}
use Rattle.pipe_exprs.proofs.TreeFacts.{tree_is}
use Rattle.pipe_exprs.proofs.ReachFacts.{first-below}

alias-of : (e : Option AExpr) (i : Node) → alias_input e ≡ Some i → (name : List ℕ) × (e ≡ Some (ax.Alias i name))
alias-of None i g = cc g
alias-of (Some (ax.Column name)) i g = cc g
alias-of (Some (ax.Literal t v)) i g = cc g
alias-of (Some (ax.Cast x t)) i g = cc g
alias-of (Some (ax.BinaryExpr l o r)) i g = cc g
alias-of (Some (ax.Ternary p a b)) i g = cc g
alias-of (Some (ax.Alias x name)) i g = let same : x ≡ i = cc g in (name, ap (λ (n : Node). Some (ax.Alias n name)) same)
alias-of (Some (ax.Agg a)) i g = cc g
alias-of (Some ax.Len) i g = cc g
alias-of (Some (ax.Filter x by)) i g = cc g
alias-of (Some (ax.Sort x)) i g = cc g

-- what stands under an alias stands before it, and has its flag
pub alias-below : (exprs : List AExpr) (n i : Node) (e : Option AExpr) → IsArena exprs → e ≡ slice_get exprs n.0 → alias_input e ≡ Some i → i.0 < n.0
alias-below exprs n i e is at g =
    let found = alias-of e i g in
    first-below exprs n (ax.Alias i found.0) (ax.Alias i found.0) i [] is (sym at ∙ found.1) refl refl

pub alias-flag : (exprs : List AExpr) (columns : List ColumnData) (n i : Node) (e : Option AExpr) → IsArena exprs → e ≡ slice_get exprs n.0 → alias_input e ≡ Some i → keeps_sorted (tree exprs i) columns ≡ keeps_sorted (tree exprs n) columns
alias-flag exprs columns n i e is at g =
    let found = alias-of e i g in
    sym (ap (λ (t : Expr). keeps_sorted t columns) (tree_is exprs n (ax.Alias i found.0) is (sym at ∙ found.1)))

-- the flag of what is no alias
pub flag-is : (exprs : List AExpr) (columns : List ColumnData) (n : Node) (e : Option AExpr) → IsArena exprs → e ≡ slice_get exprs n.0 → alias_input e ≡ None → own_flag e columns ≡ keeps_sorted (tree exprs n) columns
flag-is exprs columns n e is at g =
    own e g ∙ ap (λ (w : Option AExpr). keeps_sorted (tree_if (trees exprs) w) columns) at ∙ sym (ap (λ (t : Expr). keeps_sorted t columns) (tree_found exprs n is)) where
      own : (e : Option AExpr) → alias_input e ≡ None → own_flag e columns ≡ keeps_sorted (tree_if (trees exprs) e) columns
      own None g = refl
      own (Some (ax.Column name)) g = refl
      own (Some (ax.Literal t v)) g = refl
      own (Some (ax.Cast x t)) g = refl
      own (Some (ax.BinaryExpr l o r)) g = refl
      own (Some (ax.Ternary p a b)) g = refl
      own (Some (ax.Alias x name)) g = cc g
      own (Some (ax.Agg a)) g = refl
      own (Some ax.Len) g = refl
      own (Some (ax.Filter x by)) g = refl
      own (Some (ax.Sort x)) g = refl
