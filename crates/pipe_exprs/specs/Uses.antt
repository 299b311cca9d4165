-- Of the proofs alone: which nodes the root of an expression reaches, and the last use of each.
use Rattle.std.specs.Prelude.{◌≡◌, ◌+◌, ◌<◌, ◌≤◌, Bool, true, ℕ, max, List, length, fold, slice_get, slice_index, slice_set, Some}
use Rattle.std.specs.List.{All}
use Rattle.pipe_exprs.specs.declared.expression.Node.{Node}
use Rattle.pipe_exprs.specs.declared.expression.AExpr.{AExpr}
use Rattle.pipe_exprs.specs.Trees.{children}

-- the last uses, where a node is used by another one
abbrev pub noted : ℕ → List ℕ → Node → List ℕ
noted user uses n = slice_set uses n.0 (max (slice_index uses n.0) user)

-- the last uses, where an expression uses the nodes that it names
abbrev pub noted_all : ℕ → List ℕ → List Node → List ℕ
noted_all user uses nodes = fold (λ us n. noted user us n) uses nodes

-- the root passes a test, and so does each node that a node which passes names
pub record Spreads (exprs : List AExpr) (root : Node) (test : ℕ → Bool) : Type 0 where
  pub begins : test root.0 ≡ true
  pub named : (k : ℕ) (e : AExpr) → slice_get exprs k ≡ Some e → test k ≡ true
      → All (λ c. test c.0 ≡ true) (children e)

-- the last uses by the nodes from a place on, 0 for a node that is not reached; that of the root is
-- past all nodes
pub record AreLastUses (exprs : List AExpr) (root : Node) (from : ℕ) (uses : List ℕ) : Type 0 where
  pub size : length uses ≡ root.0 + 1
  pub last : root.0 < slice_index uses root.0
  pub named : (k : ℕ) (e : AExpr) → from ≤ k → slice_get exprs k ≡ Some e → 0 < slice_index uses k
      → All (λ c. k ≤ slice_index uses c.0) (children e)
  pub reached : (test : ℕ → Bool) → Spreads exprs root test → (k : ℕ) → 0 < slice_index uses k
      → test k ≡ true
