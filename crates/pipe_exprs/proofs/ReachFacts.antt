-- What is ready for each node that a root reaches.
use Rattle.std.proofs.Common.{◌≡◌, ◌∙◌, ◌+◌, ◌-◌, ◌<◌, ◌≤◌, ℕ, List, [], ◌∷◌, ◌++◌, length, get_or, set, Option, Some, None, unwrap_or, Bool, true, false, if◌then◌else◌, refl, sym, ap, subst, arith, inl, inr}
use Rattle.std.specs.Prelude.{◌==◌, is_some, option_and_then, slice_get}
use Rattle.std.specs.List.{All}
use mathlib.Core.Logic.{◌⊎◌}
use Rattle.std.proofs.lemmas.Bool.{cases_lt}
use Rattle.std.proofs.lemmas.Grind.{common_steps}
use Rattle.std.proofs.lemmas.List.Elements.{All-cons, All-head, All-nil}
use Rattle.std.proofs.lemmas.Option.{unwrap_or-slice_get}
use Rattle.pipe_columns.specs.declared.any_value.AnyValue.TheVariants as av
use Rattle.pipe_columns.specs.declared.data_type.DataType.{DataType}
use Rattle.pipe_columns.specs.declared.schema.Field.{Field}
use Rattle.pipe_columns.specs.DataType.{is_boolean}
use Rattle.pipe_columns.specs.Frame.{FrameData}
use Rattle.pipe_exprs.specs.declared.expression.AExpr.{AExpr}
use Rattle.pipe_exprs.specs.declared.expression.AExpr.TheVariants as ax
use Rattle.pipe_exprs.specs.declared.expression.Node.{Node}
use Rattle.pipe_exprs.specs.declared.operand.Operand.{Operand}
use Rattle.pipe_exprs.specs.declared.operand.Operand.TheVariants as operand
use Rattle.pipe_model.specs.Expr.{Expr}
use Rattle.pipe_model.specs.Expr as expr
use Rattle.pipe_exprs.specs.Operands.{AreHeld, AreReady, HoldsValues, KeepsUsed, released, released_all, slot_at}
use Rattle.pipe_exprs.specs.Trees.{agg_input, children, IsArena, tree, tree_at, tree_of, trees}
use Rattle.pipe_model.specs.Typing.{both, operator_type, shared_type, type_of, where_boolean}
use Rattle.pipe_exprs.specs.Uses.{AreLastUses}
use Rattle.pipe_exprs.proofs.TreeFacts.{tree_is}
use Rattle.pipe_exprs.proofs.UseFacts.{AreBelow, children_are_below}

-- ---- types

inner-there : {A B : Type 0} (f : A → Option B) (o : Option A) → is_some (option_and_then f o) ≡ true → is_some o ≡ true
inner-there f None h = cc h
inner-there f (Some x) h = refl

both-there : (f : DataType → DataType → Option DataType) (a b : Option DataType) → is_some (both f a b) ≡ true → (is_some a ≡ true) × (is_some b ≡ true)
both-there f None b h = cc h
both-there f (Some t) None h = cc h
both-there f (Some t) (Some u) h = (refl, refl)

where-there : (p t : Option DataType) → is_some (where_boolean p t) ≡ true → (is_some p ≡ true) × (is_some t ≡ true)
where-there None t h = cc h
where-there (Some u) t h = by_kind (is_boolean u) h where
  by_kind : (b : Bool) → is_some (if b then t else None) ≡ true → (is_some (Some u) ≡ true) × (is_some t ≡ true)
  by_kind true h = (refl, h)
  by_kind false h = cc h

module _ (fields : List Field) (ts : List Expr) where
  -- whether a node has a type
  abbrev typed : Node → Type 0
  typed c = is_some (type_of (tree_at ts c) fields) ≡ true

  one : (a : Node) → typed a → All typed (a ∷ [])
  one a h = All-cons typed a [] h (All-nil typed)

  two : (a b : Node) → typed a → typed b → All typed (a ∷ b ∷ [])
  two a b h k = All-cons typed a (b ∷ []) h (one b k)

  -- what an expression of a type names has types
  pub children-typed : (e : AExpr) → is_some (type_of (tree_of ts e) fields) ≡ true → All (λ c. is_some (type_of (tree_at ts c) fields) ≡ true) (children e)
  children-typed (ax.Column name) h = All-nil typed
  children-typed (ax.Literal t v) h = All-nil typed
  children-typed (ax.Cast x t) h = one x (inner-there _ (type_of (tree_at ts x) fields) h)
  children-typed (ax.BinaryExpr l o r) h =
      let parts = both-there (operator_type o) (type_of (tree_at ts l) fields) (type_of (tree_at ts r) fields) h in
      two l r parts.0 parts.1
  children-typed (ax.Ternary p a b) h =
      let given = where-there (type_of (tree_at ts p) fields) (both (shared_type (λ t. true)) (type_of (tree_at ts a) fields) (type_of (tree_at ts b) fields)) h in
      let parts = both-there (shared_type (λ t. true)) (type_of (tree_at ts a) fields) (type_of (tree_at ts b) fields) given.1 in
      All-cons typed p (a ∷ b ∷ []) given.0 (two a b parts.0 parts.1)
  children-typed (ax.Alias x name) h = one x h
  children-typed (ax.Agg a) h = one (agg_input a) (inner-there _ (type_of (tree_at ts (agg_input a)) fields) h)
  children-typed ax.Len h = All-nil typed
  children-typed (ax.Filter x by) h =
      let given = where-there (type_of (tree_at ts by) fields) (type_of (tree_at ts x) fields) h in
      two x by given.1 given.0
  children-typed (ax.Sort x) h = one x h

-- each node that a typed root reaches has a type
pub reached-typed : (exprs : List AExpr) (root n : Node) (uses : List ℕ) (fields : List Field) → IsArena exprs → AreLastUses exprs root 0 uses → is_some (type_of (tree exprs root) fields) ≡ true
    → 0 < get_or uses n.0 0 → is_some (type_of (tree exprs n) fields) ≡ true
reached-typed exprs root n uses fields is last typed used =
    let test : ℕ → Bool = λ k. is_some (type_of (unwrap_or (slice_get (trees exprs) k) expr.len) fields) in
    last.reached test (record {
      begins = typed;
      named = λ k e at there. children-typed fields (trees exprs) e (ap (λ (t : Expr). is_some (type_of t fields)) (sym (tree_is exprs (record { 0 = k }) e is at)) ∙ there);
    }) n.0 used

-- ---- operands that are dropped

released-length : (uses : List ℕ) (user : ℕ) (os : List Operand) (n : Node) → length (released uses user os n) ≡ length os
released-length uses user os n = by_test (get_or uses n.0 0 == user) where
  by_test : (b : Bool) → length (if b then set os n.0 (operand.Constant av.Null) else os) ≡ length os
  by_test true = grind (arith, common_steps)
  by_test false = refl

slot-set : (os : List Operand) (i k : ℕ) (o : Operand) → (i ≡ k → ⊥) → slot_at (set os i o) k ≡ slot_at os k
slot-set os i k o apart = unwrap_or-slice_get (set os i o) k (operand.Constant av.Null) ∙ grind (arith, common_steps) ∙ sym (unwrap_or-slice_get os k (operand.Constant av.Null))

released-kept : (uses : List ℕ) (user : ℕ) (os : List Operand) (n : Node) (k : ℕ) → user < get_or uses k 0 → slot_at (released uses user os n) k ≡ slot_at os k
released-kept uses user os n k later = by_test (get_or uses n.0 0 == user) refl where
  by_test : (b : Bool) → (get_or uses n.0 0 == user) ≡ b → slot_at (if b then set os n.0 (operand.Constant av.Null) else os) k ≡ slot_at os k
  by_test true e =
      let last : get_or uses n.0 0 ≡ user = grind (arith, e) in
      slot-set os n.0 k (operand.Constant av.Null) (λ same. absurd (omega (arith, ap (λ (i : ℕ). get_or uses i 0) same)))
  by_test false e = refl

-- the operands that are used later are kept
pub released-keeps : (uses : List ℕ) (user : ℕ) (os : List Operand) (ns : List Node) → KeepsUsed uses user os (released_all uses user os ns)
released-keeps uses user os [] = record { size = refl; kept = λ k later. refl }
released-keeps uses user os (n ∷ ns) =
    let rest = released-keeps uses user (released uses user os n) ns in
    record {
      size = rest.size ∙ released-length uses user os n;
      kept = λ k later. rest.kept k later ∙ released-kept uses user os n k later;
    }

-- the operand of one node is taken at its last use
pub taken-keeps : (uses : List ℕ) (user : ℕ) (os : List Operand) (n : Node) → get_or uses n.0 0 ≡ user → KeepsUsed uses user os (set os n.0 (operand.Constant av.Null))
taken-keeps uses user os n last = record {
  size = grind (arith, common_steps);
  kept = λ k later. slot-set os n.0 k (operand.Constant av.Null) (λ same. absurd (omega (arith, ap (λ (i : ℕ). get_or uses i 0) same)));
}

-- ---- the operands of all nodes so far

-- what a node names is held, where the node is reached
pub named-held : (frame : FrameData) (exprs : List AExpr) (root n : Node) (uses : List ℕ) (slots : List Operand) → IsArena exprs → AreLastUses exprs root 0 uses → 0 < get_or uses n.0 0
    → AreReady frame exprs uses n.0 slots → AreHeld frame exprs slots n
named-held frame exprs root n uses slots is last used ready = λ e at.
    let low : AreBelow n.0 (children e) = children_are_below exprs n.0 e is at in
    let later = last.named n.0 e (omega arith) at used in
    λ k d less. record { there = omega (arith, low k d less, ready.size); holds = ready.ready (get_or (children e) k d) (low k d less) (later k d less) }

slot-pushed : (slots : List Operand) (o : Operand) (k : ℕ) → k < length slots → slot_at (slots ++ (o ∷ [])) k ≡ slot_at slots k
slot-pushed slots o k h = unwrap_or-slice_get (slots ++ (o ∷ [])) k (operand.Constant av.Null) ∙ grind (arith, common_steps) ∙ sym (unwrap_or-slice_get slots k (operand.Constant av.Null))

slot-last : (slots : List Operand) (o : Operand) (k : ℕ) → k ≡ length slots → slot_at (slots ++ (o ∷ [])) k ≡ o
slot-last slots o k h = unwrap_or-slice_get (slots ++ (o ∷ [])) k (operand.Constant av.Null) ∙ grind (arith, common_steps)

-- one more operand is ready
pub ready-more : (frame : FrameData) (exprs : List AExpr) (uses : List ℕ) (place : ℕ) (before after : List Operand) (o : Operand) → AreReady frame exprs uses place before → KeepsUsed uses place before after
    → ((n : Node) → n.0 ≡ place → 0 < get_or uses n.0 0 → HoldsValues frame (tree exprs n) o) → AreReady frame exprs uses (place + 1) (after ++ (o ∷ []))
ready-more frame exprs uses place before after o ready keeps here = record {
  size = grind (arith, common_steps, ready.size, keeps.size);
  ready = λ n less used. by_place n used (cases_lt n.0 place) less;
} where
  by_place : (n : Node) → place + 1 ≤ get_or uses n.0 0 → (n.0 < place) ⊎ (place ≤ n.0) → n.0 < place + 1 → HoldsValues frame (tree exprs n) (slot_at (after ++ (o ∷ [])) n.0)
  by_place n used (inl low) less = rw (slot-pushed after o n.0 (omega (arith, ready.size, keeps.size)), keeps.kept n.0 (omega arith)) (ready.ready n low (omega arith))
  by_place n used (inr high) less = rw (slot-last after o n.0 (omega (arith, ready.size, keeps.size))) (here n (omega arith) (omega arith))

-- what is named first stands before the node
pub first-below : (exprs : List AExpr) (n : Node) (e d : AExpr) (a : Node) (ns : List Node) → IsArena exprs → slice_get exprs n.0 ≡ Some e → e ≡ d → children d ≡ a ∷ ns → a.0 < n.0
first-below exprs n e d a ns is at same are =
    let low : AreBelow n.0 (children e) = children_are_below exprs n.0 e is at in
    let own : AreBelow n.0 (a ∷ ns) = subst (AreBelow n.0) (ap children same ∙ are) low in
    All-head (λ (c : Node). c.0 < n.0) a ns own

-- an alias has the values of its input
pub alias-same : (frame : FrameData) (t x : Expr) (o : Operand) {name : List ℕ} → t ≡ expr.alias x name → HoldsValues frame x o → HoldsValues frame t o
alias-same frame t x o e h = rw e (record { height = h.height; same = h.same })

-- nothing is dropped
pub nothing-dropped : (uses : List ℕ) (user : ℕ) (os : List Operand) → KeepsUsed uses user os os
nothing-dropped uses user os = record { size = refl; kept = λ k later. refl }

-- nodes at one place have one tree
pub holds-at : (frame : FrameData) (exprs : List AExpr) (m n : Node) (o : Operand) → n.0 ≡ m.0 → HoldsValues frame (tree exprs m) o → HoldsValues frame (tree exprs n) o
holds-at frame exprs m n o same h =
    let one : tree exprs n ≡ tree exprs m = ap (λ (k : ℕ). unwrap_or (slice_get (trees exprs) k) expr.len) same in
    rw one h

-- the last operand is that of the root
pub last-ready : (frame : FrameData) (exprs : List AExpr) (root : Node) (uses : List ℕ) (place : ℕ) (slots : List Operand) (o : Operand) → AreReady frame exprs uses place slots → AreLastUses exprs root 0 uses
    → place ≡ length uses → o ≡ get_or slots (length slots - 1) (operand.Constant av.Null) → HoldsValues frame (tree exprs root) o
last-ready frame exprs root uses place slots o ready last all is =
    let here : length slots - 1 ≡ root.0 = omega (arith, ready.size, last.size) in
    let own : o ≡ slot_at slots root.0 = is ∙ ap (λ (k : ℕ). get_or slots k (operand.Constant av.Null)) here ∙ sym (unwrap_or-slice_get slots root.0 (operand.Constant av.Null)) in
    rw own (ready.ready root (omega (arith, last.size)) (omega (arith, last.size, last.last)))
