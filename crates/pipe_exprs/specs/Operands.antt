-- Of the proofs alone: the values of a node in the rows of a frame, while they are at hand.
use Rattle.std.specs.Prelude.{◌≡◌, ◌==◌, ◌<◌, ◌≤◌, fold, if◌then◌else◌, slice_index, slice_set, Bool, true, ℕ, List, Option, Some, None, length, map, nat_lt, slice_get, unwrap_or}
use Rattle.pipe_columns.specs.declared.any_value.AnyValue.{AnyValue}
use Rattle.pipe_columns.specs.declared.any_value.AnyValue.TheVariants as av
use Rattle.pipe_columns.specs.declared.data_type.DataType.{DataType}
use Rattle.pipe_columns.specs.declared.data_type.DataType.TheVariants as dt
use Rattle.pipe_columns.specs.AnyValue.{fits}
use Rattle.pipe_columns.specs.Frame.{ColumnData, FrameData, fields_of, value_at}
use Rattle.std.specs.List.{All}
use Rattle.pipe_exprs.specs.declared.expression.AExpr.{AExpr}
use Rattle.pipe_exprs.specs.declared.expression.Node.{Node}
use Rattle.pipe_exprs.specs.declared.operand.Operand.{Operand}
use Rattle.pipe_exprs.specs.declared.operand.Operand.TheVariants as operand
use Rattle.pipe_model.specs.Expr.{Expr}
use Rattle.pipe_exprs.specs.Trees.{children, tree, trees}
use Rattle.pipe_model.specs.Typing.{type_of}
use Rattle.pipe_model.specs.Value.{value}

-- the value in a row: one of a list that is lent or held, or one for all rows
abbrev pub operand_at : Operand → ℕ → AnyValue
operand_at (operand.Lent values) row = value_at values.now row
operand_at (operand.Constant v) row = v
operand_at (operand.Own values) row = value_at values.items row

-- whether there is a value in a row
abbrev pub has_row : Operand → ℕ → Bool
has_row (operand.Lent values) row = nat_lt row (length values.now)
has_row (operand.Constant v) row = true
has_row (operand.Own values) row = nat_lt row (length values.items)

-- whether there are values for just so many rows
abbrev pub has_height : Operand → ℕ → Bool
has_height (operand.Lent values) height = length values.now == height
has_height (operand.Constant v) height = true
has_height (operand.Own values) height = length values.items == height

-- the values of all rows fit a type
abbrev pub OperandFits : Operand → ℕ → DataType → Type 0
OperandFits o height t = (row : ℕ) → row < height → fits (operand_at o row) t ≡ true

-- an operand holds the values of an expression in the rows of a frame
pub record HoldsValues (frame : FrameData) (e : Expr) (o : Operand) : Type 0 where
  pub height : has_height o frame.height ≡ true
  pub same : (row : ℕ) → row < frame.height → operand_at o row ≡ value e frame row

-- two operands have the same values in so many rows
pub record IsSameOperand (rows : ℕ) (a b : Operand) : Type 0 where
  pub height : has_height b rows ≡ true
  pub same : (row : ℕ) → row < rows → operand_at b row ≡ operand_at a row

-- the operand of a node, a null for all rows where there is none
abbrev pub slot_at : List Operand → ℕ → Operand
slot_at slots i = unwrap_or (slice_get slots i) (operand.Constant av.Null)

-- the operand of a node is there, and holds the values of its tree
pub record IsHeld (frame : FrameData) (exprs : List AExpr) (slots : List Operand) (n : Node)
    : Type 0 where
  pub there : n.0 < length slots
  pub holds : HoldsValues frame (tree exprs n) (slot_at slots n.0)

-- the operands of the nodes that the expression at a node names
abbrev pub AreHeld : FrameData → List AExpr → List Operand → Node → Type 0
AreHeld frame exprs slots n = (e : AExpr) → slice_get exprs n.0 ≡ Some e
    → All (λ c. IsHeld frame exprs slots c) (children e)

-- the types of the nodes of an arena over some columns
abbrev pub node_types : List AExpr → List ColumnData → List (Option DataType)
node_types exprs columns = map (λ e. type_of e (fields_of columns)) (trees exprs)

-- the type at a node, that of a count where there is none
abbrev pub type_at : List (Option DataType) → Node → DataType
type_at types n = unwrap_or (unwrap_or (slice_get types n.0) None) dt.UInt32

-- the operands without that of a node whose last use is by a user
abbrev pub released : List ℕ → ℕ → List Operand → Node → List Operand
released uses user slots n =
    if slice_index uses n.0 == user then slice_set slots n.0 (operand.Constant av.Null) else slots

-- the operands without those of nodes whose last use is by a user
abbrev pub released_all : List ℕ → ℕ → List Operand → List Node → List Operand
released_all uses user slots nodes = fold (λ os n. released uses user os n) slots nodes

-- the operands of nodes that are used after a user are as they were
pub record KeepsUsed (uses : List ℕ) (user : ℕ) (before after : List Operand) : Type 0 where
  pub size : length after ≡ length before
  pub kept : (k : ℕ) → user < slice_index uses k → slot_at after k ≡ slot_at before k

-- the operands of the nodes below a place: those of all that are used from there on hold the values
-- of their trees
pub record AreReady (frame : FrameData) (exprs : List AExpr) (uses : List ℕ) (place : ℕ)
    (slots : List Operand) : Type 0 where
  pub size : length slots ≡ place
  pub ready : (n : Node) → n.0 < place → place ≤ slice_index uses n.0
      → HoldsValues frame (tree exprs n) (slot_at slots n.0)
