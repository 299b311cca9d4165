-- The operand of a node holds the values of its tree.
use Rattle.std.proofs.Common.{◌≡◌, ◌∙◌, ◌<◌, ◌&&◌, ℕ, List, [], ◌∷◌, length, map, get_or, Vec, Global, Bor, Option, Some, None, unwrap_or, Bool, true, false, if◌then◌else◌, refl, sym, ap, arith, eq-eqb, inl, inr}
use Rattle.std.specs.Prelude.{IfOk, is_some, option_map, slice_get, Result, Ok, Err, ◌==◌}
use Rattle.std.specs.Str.{bytes_eq}
use Rattle.std.specs.List.{find, list_all, range_with_len, All}
use Rattle.std.proofs.lemmas.List.FromFn.{fill_by_all, get_or-map-range_with_len, length-map-range_with_len}
use Rattle.std.proofs.lemmas.Option.{slice_get-map, slice_get_read, unwrap_or-slice_get}
use Rattle.pipe_columns.specs.declared.any_value.AnyValue.{AnyValue}
use Rattle.pipe_columns.specs.declared.any_value.AnyValue.TheVariants as av
use Rattle.pipe_columns.specs.declared.data_type.DataType.{DataType}
use Rattle.pipe_columns.specs.declared.data_type.DataType.TheVariants as dt
use Rattle.pipe_columns.specs.AnyValue.{fits}
use Rattle.pipe_columns.specs.DataType.{is_boolean}
use Rattle.pipe_columns.specs.Frame.{all_fit, all_have_height, ColumnData, FrameData, fields_of, value_at}
use Rattle.std.proofs.lemmas.List.Elements.{All-head, All-tail}
use mathlib.Core.Logic.{◌⊎◌}
use Rattle.pipe_exprs.specs.declared.expression.AExpr.{AExpr}
use Rattle.pipe_exprs.specs.declared.expression.AExpr.TheVariants as ax
use Rattle.pipe_exprs.specs.declared.expression.IRAggExpr.{IRAggExpr}
use Rattle.pipe_exprs.specs.declared.expression.Node.{Node}
use Rattle.pipe_exprs.specs.Trees.{children, IsArena, tree, tree_of, trees}
use Rattle.pipe_exprs.proofs.TreeFacts.{tree_is}
use Rattle.pipe_exprs.specs.declared.operand.Operand.{Operand}
use Rattle.pipe_exprs.specs.declared.operand.Operand.TheVariants as operand
use Rattle.pipe_columns.specs.declared.operator.Operator.{Operator}
use Rattle.pipe_columns.specs.declared.operator.Operator.TheVariants as op
use Rattle.pipe_columns.specs.declared.schema.Field.{Field}
use Rattle.pipe_exprs.specs.declared.facts.NodeFacts.{NodeFacts}
use Rattle.pipe_exprs.specs.NodeFacts.{facts_at, facts_of, len_facts}
use Rattle.pipe_exprs.specs.Evaluated.{evaluated, keeps_sorted, row_values}
use Rattle.pipe_model.specs.Expr.{Expr, name_of}
use Rattle.pipe_model.specs.Expr as expr
use Rattle.pipe_exprs.specs.Operands.{AreHeld, has_height, HoldsValues, IsHeld, IsSameOperand, node_types, operand_at, OperandFits, slot_at, type_at}
use Rattle.pipe_columns.specs.Frame.{ColumnsFit}
use Rattle.pipe_model.specs.Operators.{apply, cast_value, chosen}
use Rattle.pipe_columns.specs.DataType.{is_input, is_integer}
use Rattle.pipe_model.specs.Typing.{is_row_wise, known_type, operator_type, shared_type, truth_type, type_of}
use Rattle.pipe_model.specs.Value.{column_named, value}
use Rattle.pipe_exprs.proofs.RowFacts.{list_all-range}
use Rattle.pipe_exprs.proofs.FitFacts.{both-some, shared-both, value-fits}

-- values of each row that are held
pub own-holds : (frame : FrameData) (e : Expr) (vs : Vec AnyValue Global) (f : ℕ → AnyValue) (height : ℕ) → height ≡ frame.height → vs.items ≡ map f (range_with_len 0 height)
    → ((row : ℕ) → row < frame.height → f row ≡ value e frame row) → HoldsValues frame e (operand.Own vs)
own-holds frame e vs f height all made same =
    let is : vs.items ≡ map f (range_with_len 0 frame.height) = made ∙ ap (λ (n : ℕ). map f (range_with_len 0 n)) all in
    record {
      height = eq-eqb (length vs.items) frame.height (ap length is ∙ length-map-range_with_len f 0 frame.height);
      same = λ row l. ap (λ (t : List AnyValue). value_at t row) is ∙ unwrap_or-slice_get (map f (range_with_len 0 frame.height)) row av.Null
          ∙ get_or-map-range_with_len f 0 frame.height row row av.Null l (omega arith) ∙ same row l;
    }

pub cast-holds : (frame : FrameData) (x : Expr) (t : DataType) (o : Operand) (vs : Vec AnyValue Global) (height : ℕ) → HoldsValues frame x o → height ≡ frame.height
    → vs.items ≡ map (λ row. cast_value t (operand_at o row)) (range_with_len 0 height) → HoldsValues frame (expr.cast x t) (operand.Own vs)
cast-holds frame x t o vs height h all is = own-holds frame (expr.cast x t) vs (λ row. cast_value t (operand_at o row)) height all is (λ row l. ap (cast_value t) (h.same row l))

pub operator-holds : (frame : FrameData) (l r : Expr) (o : Operator) (t : DataType) (left right : Operand) (vs : Vec AnyValue Global) (height : ℕ) → HoldsValues frame l left → HoldsValues frame r right
    → t ≡ known_type l (fields_of frame.columns) → height ≡ frame.height → vs.items ≡ map (λ row. apply o t (operand_at left row) (operand_at right row)) (range_with_len 0 height) → HoldsValues frame (expr.binary l o r) (operand.Own vs)
operator-holds frame l r o t left right vs height h k known all is =
    own-holds frame (expr.binary l o r) vs (λ row. apply o t (operand_at left row) (operand_at right row)) height all is (λ row less. rw (h.same row less, k.same row less, known) refl)

pub chosen-holds : (frame : FrameData) (p a b : Expr) (first second third : Operand) (vs : Vec AnyValue Global) (height : ℕ) → HoldsValues frame p first → HoldsValues frame a second → HoldsValues frame b third
    → height ≡ frame.height → vs.items ≡ map (λ row. chosen (operand_at first row) (operand_at second row) (operand_at third row)) (range_with_len 0 height) → HoldsValues frame (expr.ternary p a b) (operand.Own vs)
chosen-holds frame p a b first second third vs height h k m all is =
    own-holds frame (expr.ternary p a b) vs (λ row. chosen (operand_at first row) (operand_at second row) (operand_at third row)) height all is (λ row less. rw (h.same row less, k.same row less, m.same row less) refl)

-- one value for all rows
pub constant-holds : (frame : FrameData) (e : Expr) (v : AnyValue) → ((row : ℕ) → v ≡ value e frame row) → HoldsValues frame e (operand.Constant v)
constant-holds frame e v same = record { height = refl; same = λ row l. same row }

-- what holds of all holds of what is found
pub found-passes : {X : Type 0} (test p : X → Bool) (xs : List X) (x : X) → find test xs ≡ Some x → list_all p xs ≡ true → p x ≡ true
found-passes test p [] x e h = cc e
found-passes test p (y ∷ ys) x e h = by_test (test y) (p y) refl refl (found-passes test p ys x) e h where
  by_test : (b w : Bool) → test y ≡ b → p y ≡ w → (find test ys ≡ Some x → list_all p ys ≡ true → p x ≡ true) → (if b then Some y else find test ys) ≡ Some x → (w && list_all p ys) ≡ true → p x ≡ true
  by_test true true t q rest e h = let same : y ≡ x = cc e in rw (← same) q
  by_test true false t q rest e h = cc h
  by_test false true t q rest e h = rest e h
  by_test false false t q rest e h = cc h

-- the values of a column that are lent
pub lent-holds : (frame : FrameData) (name : List ℕ) (c : ColumnData) (lent : Bor (List AnyValue)) → column_named name frame.columns ≡ Some c → all_have_height frame.height frame.columns ≡ true → lent.now ≡ c.values
    → HoldsValues frame (expr.column name) (operand.Lent lent)
lent-holds frame name c lent found heights is = record {
  height = rw is (found-passes (λ (x : ColumnData). bytes_eq x.name name) (λ (x : ColumnData). length x.values == frame.height) frame.columns c found heights);
  same = λ row l. rw (is, found) refl;
}

-- the operand of a node of which there is one
pub slot_read : (slots : List Operand) (i : ℕ) (o : Operand) → i < length slots → o ≡ get_or slots i o → slot_at slots i ≡ o
slot_read slots i o h e = rw (slice_get_read slots (length slots) i o refl h e) refl

-- ---- types

shared-same : (test : DataType → Bool) (u v t : DataType) → shared_type test u v ≡ Some t → u ≡ v
shared-same test u v t e = let parts = shared-both test u v t e in parts.0 ∙ sym parts.1

truth-same : (test : DataType → Bool) (u v t : DataType) → truth_type test u v ≡ Some t → u ≡ v
truth-same test u v t e = by_type (shared_type test u v) refl e where
  by_type : (w : Option DataType) → shared_type test u v ≡ w → option_map (λ x. dt.Boolean) w ≡ Some t → u ≡ v
  by_type None s e = cc e
  by_type (Some x) s e = shared-same test u v x s

operator-same : (o : Operator) (u v t : DataType) → operator_type o u v ≡ Some t → u ≡ v
operator-same op.Plus u v t e = shared-same is_integer u v t e
operator-same op.Minus u v t e = shared-same is_integer u v t e
operator-same op.Multiply u v t e = shared-same is_integer u v t e
operator-same op.FloorDivide u v t e = shared-same is_integer u v t e
operator-same op.Modulus u v t e = shared-same is_integer u v t e
operator-same op.Eq u v t e = truth-same is_input u v t e
operator-same op.NotEq u v t e = truth-same is_input u v t e
operator-same op.Lt u v t e = truth-same is_input u v t e
operator-same op.LtEq u v t e = truth-same is_input u v t e
operator-same op.Gt u v t e = truth-same is_input u v t e
operator-same op.GtEq u v t e = truth-same is_input u v t e
operator-same op.And u v t e = truth-same is_boolean u v t e
operator-same op.Or u v t e = truth-same is_boolean u v t e

operator-there : (o : Operator) (u v t : DataType) → u ≡ v → operator_type o u v ≡ Some t → is_some (operator_type o u u) ≡ true
operator-there o u v t same e =
    let own : operator_type o u u ≡ Some t = ap (λ (w : DataType). operator_type o u w) same ∙ e in
    ap is_some own

-- the operands of an operator are of one type that it takes
pub operands-typed : (l r : Expr) (o : Operator) (frame : FrameData) → is_some (type_of (expr.binary l o r) (fields_of frame.columns)) ≡ true
    → (t : DataType) × (type_of l (fields_of frame.columns) ≡ Some t) × (type_of r (fields_of frame.columns) ≡ Some t) × (is_some (operator_type o t t) ≡ true)
operands-typed l r o frame h = by_type (type_of (expr.binary l o r) (fields_of frame.columns)) refl h where
  by_type : (w : Option DataType) → type_of (expr.binary l o r) (fields_of frame.columns) ≡ w → is_some w ≡ true
      → (t : DataType) × (type_of l (fields_of frame.columns) ≡ Some t) × (type_of r (fields_of frame.columns) ≡ Some t) × (is_some (operator_type o t t) ≡ true)
  by_type None e h = cc h
  by_type (Some t) e h =
      let parts = both-some (operator_type o) (type_of l (fields_of frame.columns)) (type_of r (fields_of frame.columns)) t e in
      let same = operator-same o parts.0 parts.1 t parts.4 in
      (parts.0, parts.2, parts.3 ∙ ap Some (sym same), operator-there o parts.0 parts.1 t same parts.4)

-- the values of an expression of a type fit it
pub held-fits : (frame : FrameData) (x : Expr) (o : Operand) (t : DataType) → ColumnsFit frame.columns → HoldsValues frame x o → type_of x (fields_of frame.columns) ≡ Some t → OperandFits o frame.height t
held-fits frame x o t c h e = λ row less. rw (h.same row less) (value-fits x frame row t c e)

-- the type that is found for an operator's operands is one that it takes, and they fit it
pub typed-operands : (l r : Expr) (o : Operator) (frame : FrameData) (left right : Operand) (t : DataType) (height : ℕ) → ColumnsFit frame.columns → is_some (type_of (expr.binary l o r) (fields_of frame.columns)) ≡ true
    → HoldsValues frame l left → HoldsValues frame r right → t ≡ known_type l (fields_of frame.columns) → height ≡ frame.height
    → (is_some (operator_type o t t) ≡ true) × OperandFits left height t × OperandFits right height t
typed-operands l r o frame left right t height fit typed h k known all =
    let parts = operands-typed l r o frame typed in
    let same : t ≡ parts.0 = known ∙ ap (λ (w : Option DataType). unwrap_or w dt.UInt32) parts.1 in
    let own : type_of l (fields_of frame.columns) ≡ Some t = parts.1 ∙ ap Some (sym same) in
    let other : type_of r (fields_of frame.columns) ≡ Some t = parts.2 ∙ ap Some (sym same) in (
      ap (λ (w : DataType). is_some (operator_type o w w)) same ∙ parts.3,
      λ row less. held-fits frame l left t fit h own row (omega (arith, all)),
      λ row less. held-fits frame r right t fit k other row (omega (arith, all)),
    )

-- ---- nodes

-- the tree of a node whose expression is known
pub tree-known : (exprs : List AExpr) (n : Node) (e d : AExpr) → IsArena exprs → slice_get exprs n.0 ≡ Some e → e ≡ d → tree exprs n ≡ tree_of (trees exprs) d
tree-known exprs n e d is at same = tree_is exprs n e is at ∙ ap (tree_of (trees exprs)) same

pub as-tree : (frame : FrameData) (t d : Expr) (o : Operand) → t ≡ d → HoldsValues frame d o → HoldsValues frame t o
as-tree frame t d o e h = rw e h

pub sized : (frame : FrameData) (e : Expr) (o : Operand) (height : ℕ) → HoldsValues frame e o → height ≡ frame.height → has_height o height ≡ true
sized frame e o height h all = rw all h.height

pub read : (frame : FrameData) (exprs : List AExpr) (slots : List Operand) (n : Node) (o : Operand) → IsHeld frame exprs slots n → o ≡ slot_at slots n.0 → HoldsValues frame (tree exprs n) o
read frame exprs slots n o h e = rw e h.holds

module _ (frame : FrameData) (exprs : List AExpr) (slots : List Operand) (n : Node) (e d : AExpr) where
  held : List Node → Type 0
  held ns = All (λ c. IsHeld frame exprs slots c) ns

  known : (ns : List Node) → slice_get exprs n.0 ≡ Some e → e ≡ d → children d ≡ ns → AreHeld frame exprs slots n → held ns
  unfolding held
  known ns at same are h =
      let own : All (λ c. IsHeld frame exprs slots c) (children e) = h e at in
      rw (← are, ← same) own

  -- the operands of the nodes that an expression names
  pub first : (a : Node) (ns : List Node) → slice_get exprs n.0 ≡ Some e → e ≡ d → children d ≡ a ∷ ns → AreHeld frame exprs slots n → IsHeld frame exprs slots a
  unfolding held
  first a ns at same are h = All-head (λ (c : Node). IsHeld frame exprs slots c) a ns (known (a ∷ ns) at same are h)

  pub second : (a b : Node) (ns : List Node) → slice_get exprs n.0 ≡ Some e → e ≡ d → children d ≡ a ∷ b ∷ ns → AreHeld frame exprs slots n → IsHeld frame exprs slots b
  unfolding held
  second a b ns at same are h =
      let P : Node → Type 0 = λ c. IsHeld frame exprs slots c in
      All-head P b ns (All-tail P a (b ∷ ns) (known (a ∷ b ∷ ns) at same are h))

  pub third : (a b c : Node) → slice_get exprs n.0 ≡ Some e → e ≡ d → children d ≡ a ∷ b ∷ c ∷ [] → AreHeld frame exprs slots n → IsHeld frame exprs slots c
  unfolding held
  third a b c at same are h =
      let P : Node → Type 0 = λ c. IsHeld frame exprs slots c in
      All-head P c [] (All-tail P b (c ∷ []) (All-tail P a (b ∷ c ∷ []) (known (a ∷ b ∷ c ∷ []) at same are h)))

-- the type that is read at a node
pub type-read : (exprs : List AExpr) (columns : List ColumnData) (types : List (Option DataType)) (n : Node) → types ≡ node_types exprs columns → type_at types n ≡ known_type (tree exprs n) (fields_of columns)
type-read exprs columns types n is =
    ap (λ (ts : List (Option DataType)). type_at ts n) is ∙ ap (λ (w : Option (Option DataType)). unwrap_or (unwrap_or w None) dt.UInt32) (slice_get-map (λ (e : Expr). type_of e (fields_of columns)) (trees exprs) n.0)
    ∙ by_slot (slice_get (trees exprs) n.0) where
      by_slot : (w : Option Expr) → unwrap_or (unwrap_or (option_map (λ e. type_of e (fields_of columns)) w) None) dt.UInt32 ≡ known_type (unwrap_or w expr.len) (fields_of columns)
      by_slot None = refl
      by_slot (Some e) = refl

-- the same values, of their own
pub own-same : (o : Operand) (height : ℕ) (vs : Vec AnyValue Global) → vs.items ≡ map (λ row. operand_at o row) (range_with_len 0 height) → IsSameOperand height o (operand.Own vs)
own-same o height vs is = record {
  height = eq-eqb (length vs.items) height (ap length is ∙ length-map-range_with_len (operand_at o) 0 height);
  same = λ row l. ap (λ (t : List AnyValue). value_at t row) is ∙ unwrap_or-slice_get (map (operand_at o) (range_with_len 0 height)) row av.Null
      ∙ get_or-map-range_with_len (operand_at o) 0 height row row av.Null l (omega arith);
}

-- what holds the values of an expression, as an equal operand
pub same-holds : (frame : FrameData) (e : Expr) (a b : Operand) → HoldsValues frame e a → IsSameOperand frame.height a b → HoldsValues frame e b
same-holds frame e a b h s = record { height = s.height; same = λ row l. s.same row l ∙ h.same row l }

-- an alias has the values of its input
pub alias-holds : {Z : Type 0} (frame : FrameData) (t x : Expr) (a : Operand) (r : Result Operand Z) (height : ℕ) {name : List ℕ} → t ≡ expr.alias x name → HoldsValues frame x a → height ≡ frame.height
    → IfOk r (λ o. IsSameOperand height a o) → IfOk r (λ o. HoldsValues frame t o)
alias-holds frame t x a (Ok o) height {name} e h all s =
    let same : IsSameOperand frame.height a o = rw (← all) s in
    let own = same-holds frame x a o h same in
    rw e (record { height = own.height; same = own.same })
alias-holds frame t x a (Err z) height {name} e h all s = s

-- what has no value in a row is null
pub nothing-holds : (exprs : List AExpr) (n : Node) (e : AExpr) (frame : FrameData) → IsArena exprs → slice_get exprs n.0 ≡ Some e
    → ((a : IRAggExpr) × (e ≡ ax.Agg a)) ⊎ ((e ≡ ax.Len) ⊎ (((x : Node) × (by : Node) × (e ≡ ax.Filter x by)) ⊎ ((x : Node) × (e ≡ ax.Sort x)))) → HoldsValues frame (tree exprs n) (operand.Constant av.Null)
nothing-holds exprs n e frame is at (inl a) = as-tree frame _ _ (operand.Constant av.Null) (tree-known exprs n e _ is at a.1) (constant-holds frame _ av.Null (λ row. refl))
nothing-holds exprs n e frame is at (inr (inl l)) = as-tree frame _ _ (operand.Constant av.Null) (tree-known exprs n e _ is at l) (constant-holds frame _ av.Null (λ row. refl))
nothing-holds exprs n e frame is at (inr (inr (inl f))) = as-tree frame _ _ (operand.Constant av.Null) (tree-known exprs n e _ is at f.2) (constant-holds frame _ av.Null (λ row. refl))
nothing-holds exprs n e frame is at (inr (inr (inr s))) = as-tree frame _ _ (operand.Constant av.Null) (tree-known exprs n e _ is at s.1) (constant-holds frame _ av.Null (λ row. refl))

-- ---- lists of all rows

-- a list that is held, or lent, is that of the values of all rows
pub held-rows : (frame : FrameData) (e : Expr) (items : List AnyValue) → length items ≡ frame.height → ((row : ℕ) → row < frame.height → value_at items row ≡ value e frame row) → items ≡ row_values e frame
held-rows frame e items size same =
    fill_by_all (λ (row : ℕ). value e frame row) items frame.height av.Null size (λ row l. sym (unwrap_or-slice_get items row av.Null) ∙ same row l)

pub own-rows : (frame : FrameData) (e : Expr) (vs : Vec AnyValue Global) → HoldsValues frame e (operand.Own vs) → vs.items ≡ row_values e frame
own-rows frame e vs h =
    let size : length vs.items ≡ frame.height = grind (arith, h.height) in
    held-rows frame e vs.items size h.same

pub lent-rows : (frame : FrameData) (e : Expr) (lent : Bor (List AnyValue)) → HoldsValues frame e (operand.Lent lent) → lent.now ≡ row_values e frame
lent-rows frame e lent h =
    let size : length lent.now ≡ frame.height = grind (arith, h.height) in
    held-rows frame e lent.now size h.same

-- they fit the type of the expression
pub rows-fit : (frame : FrameData) (e : Expr) → ColumnsFit frame.columns → is_some (type_of e (fields_of frame.columns)) ≡ true → all_fit (known_type e (fields_of frame.columns)) (row_values e frame) ≡ true
rows-fit frame e fit typed = by_type (type_of e (fields_of frame.columns)) refl typed where
  by_type : (w : Option DataType) → type_of e (fields_of frame.columns) ≡ w → is_some w ≡ true → all_fit (unwrap_or w dt.UInt32) (row_values e frame) ≡ true
  by_type None is typed = cc typed
  by_type (Some t) is typed = list_all-range (λ (v : AnyValue). fits v t) (λ (row : ℕ). value e frame row) 0 frame.height (λ row l m. value-fits e frame row t fit is)

-- so is that of an equal operand
pub into-rows : (frame : FrameData) (e : Expr) (o : Operand) (vs : Vec AnyValue Global) (height : ℕ) → HoldsValues frame e o → height ≡ frame.height → IsSameOperand height o (operand.Own vs) → vs.items ≡ row_values e frame
into-rows frame e o vs height h all s =
    let same : IsSameOperand frame.height o (operand.Own vs) = rw (← all) s in
    own-rows frame e vs (same-holds frame e o (operand.Own vs) h same)

-- a copy has the same values
pub copied-same : {Z : Type 0} (o : Operand) (height : ℕ) (r : Result (Vec AnyValue Global) Z) → IfOk r (λ vs. vs.items ≡ map (λ row. operand_at o row) (range_with_len 0 height)) → IfOk r (λ vs. IsSameOperand height o (operand.Own vs))
copied-same o height (Ok vs) is = own-same o height vs is
copied-same o height (Err z) is = is

-- the column of an expression, by its parts
pub column-is : (e : Expr) (frame : FrameData) (name : List ℕ) (t : DataType) (sorted : Bool) (values : List AnyValue) (c : ColumnData) → c ≡ record { name = name; dtype = t; sorted = sorted; values = values }
    → name ≡ name_of e → t ≡ known_type e (fields_of frame.columns) → sorted ≡ keeps_sorted e frame.columns → values ≡ row_values e frame → c ≡ evaluated e frame
column-is e frame name t sorted values c is named typed flagged rows = is ∙ rw (named, typed, flagged, rows) refl

-- ---- what tests read of a node

-- whether it has a value in each row
pub row_wise-read : (exprs : List AExpr) (fields : List Field) (known : List NodeFacts) (n : Node) → known ≡ map (facts_of fields) (trees exprs) → (facts_at known n).row_wise ≡ is_row_wise (tree exprs n)
row_wise-read exprs fields known n is =
    ap (λ (ks : List NodeFacts). (facts_at ks n).row_wise) is ∙ ap (λ (w : Option NodeFacts). (unwrap_or w len_facts).row_wise) (slice_get-map (facts_of fields) (trees exprs) n.0) ∙ by_slot (slice_get (trees exprs) n.0) where
      by_slot : (w : Option Expr) → (unwrap_or (option_map (facts_of fields) w) len_facts).row_wise ≡ is_row_wise (unwrap_or w expr.len)
      by_slot None = refl
      by_slot (Some e) = refl

-- whether it has a type
pub typed-read : (exprs : List AExpr) (columns : List ColumnData) (types : List (Option DataType)) (n : Node) (t : DataType) → types ≡ node_types exprs columns → slice_get types n.0 ≡ Some (Some t) → is_some (type_of (tree exprs n) (fields_of columns)) ≡ true
typed-read exprs columns types n t is at =
    by_slot (slice_get (trees exprs) n.0) (sym (slice_get-map (λ (e : Expr). type_of e (fields_of columns)) (trees exprs) n.0) ∙ sym (ap (λ (ts : List (Option DataType)). slice_get ts n.0) is) ∙ at) where
      by_slot : (w : Option Expr) → option_map (λ e. type_of e (fields_of columns)) w ≡ Some (Some t) → is_some (type_of (unwrap_or w expr.len) (fields_of columns)) ≡ true
      by_slot None h = refl
      by_slot (Some e) h = let own : type_of e (fields_of columns) ≡ Some t = cc h in ap is_some own
