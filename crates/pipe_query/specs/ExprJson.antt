-- The expression that a JSON value is.
use Rattle.std.specs.Prelude.{true, false, List, [], ◌∷◌, Option, Some, None, option_map, option_and_then}
use Rattle.serde_json.specs.Data.{Data, null, boolean, number, string, array, object, Items, no_items, item, Members, no_members, member}
use Rattle.serde_json.specs.Find.{as_integer, as_null, as_str}
use Rattle.pipe_columns.specs.declared.any_value.AnyValue.{AnyValue}
use Rattle.pipe_columns.specs.declared.any_value.AnyValue.TheVariants as av
use Rattle.pipe_columns.specs.declared.data_type.DataType.{DataType}
use Rattle.pipe_columns.specs.declared.operator.Operator.{Operator}
use Rattle.pipe_model.specs.Expr.{Expr}
use Rattle.pipe_model.specs.Expr as expr
use Rattle.pipe_query.specs.declared.json_names.Form.{Form}
use Rattle.pipe_query.specs.declared.json_names.Form.TheVariants as form
use Rattle.pipe_query.specs.declared.json_names.Over.{Over}
use Rattle.pipe_query.specs.declared.json_names.Over.TheVariants as over
use Rattle.pipe_query.specs.JsonNames.{form_named, sign_named, type_named}
use Rattle.pipe_query.specs.JsonShapes.{pair_of}

-- ---- parts that are no expressions

-- a value as a type
abbrev pub type_of_name : Data → Option DataType
type_of_name d = option_and_then type_named (as_str d)

-- a value as an operator
abbrev pub operator_of : Data → Option Operator
operator_of d = option_and_then sign_named (as_str d)

-- a literal's value: null, a truth, an integer or a text
abbrev pub value_of : Data → Option AnyValue
value_of null = Some av.Null
value_of (boolean b) = Some (av.Boolean b)
value_of (number n) = option_map av.Int (as_integer n)
value_of (string s) = Some (av.Text s)
value_of (array ds) = None
value_of (object ms) = None

-- ---- one level: the items of a list stand beside the expressions that they are

-- a value, and the expression that it is, if it is one
pub record Part : Type 0 where
  pub json : Data
  pub expr : Option Expr

-- a list of two parts
abbrev pub two_parts : List Part → Option (Part × Part)
two_parts [] = None
two_parts (a ∷ []) = None
two_parts (a ∷ b ∷ []) = Some (a, b)
two_parts (a ∷ b ∷ c ∷ more) = None

-- a list of three parts
abbrev pub three_parts : List Part → Option (Part × Part × Part)
three_parts [] = None
three_parts (a ∷ []) = None
three_parts (a ∷ b ∷ []) = None
three_parts (a ∷ b ∷ c ∷ []) = Some (a, b, c)
three_parts (a ∷ b ∷ c ∷ d ∷ more) = None

-- a text, as a column's name
abbrev pub json_column : Data → Option Expr
json_column d = option_map expr.column (as_str d)

-- a type and a value
abbrev pub literal_of : Option (Data × Data) → Option Expr
literal_of pair =
    option_and_then (λ p.
    option_and_then (λ dtype. option_map (expr.literal dtype) (value_of p.1))
    (type_of_name p.0)) pair

-- an expression and a type
abbrev pub cast_of : Option (Part × Part) → Option Expr
cast_of pair =
    option_and_then (λ p.
    option_and_then (λ dtype. option_map (λ e. expr.cast e dtype) p.0.expr)
    (type_of_name p.1.json)) pair

-- a sign and two operands
abbrev pub binary_of : Option (Part × Part × Part) → Option Expr
binary_of triple =
    option_and_then (λ p.
    option_and_then (λ sign.
    option_and_then (λ l. option_map (expr.binary l sign) p.2.expr) p.1.expr)
    (operator_of p.0.json)) triple

-- a predicate and two branches
abbrev pub ternary_of : Option (Part × Part × Part) → Option Expr
ternary_of triple =
    option_and_then (λ p.
    option_and_then (λ e.
    option_and_then (λ t. option_map (expr.ternary e t) p.2.expr) p.1.expr)
    p.0.expr) triple

-- an expression and a name
abbrev pub alias_of : Option (Part × Part) → Option Expr
alias_of pair =
    option_and_then (λ p.
    option_and_then (λ name. option_map (λ e. expr.alias e name) p.0.expr)
    (as_str p.1.json)) pair

-- an expression and a condition
abbrev pub filter_of : Option (Part × Part) → Option Expr
filter_of pair =
    option_and_then (λ p.
    option_and_then (λ e. option_map (expr.filter e) p.1.expr) p.0.expr) pair

-- a null, as the number of rows
abbrev pub length_of : Data → Option Expr
length_of d = option_map (λ nothing. expr.len) (as_null d)

-- an aggregate of an expression, or its values in order
abbrev pub over_expr : Over → Expr → Expr
over_expr over.Sum e = expr.aggregate expr.sum e
over_expr over.First e = expr.aggregate expr.first e
over_expr over.Last e = expr.aggregate expr.last e
over_expr over.Mean e = expr.aggregate expr.mean e
over_expr over.Min e = expr.aggregate (expr.min false) e
over_expr over.Max e = expr.aggregate (expr.max false) e
over_expr over.Count e = expr.aggregate (expr.count false) e
over_expr over.CountAll e = expr.aggregate (expr.count true) e
over_expr over.Median e = expr.aggregate expr.median e
over_expr over.NUnique e = expr.aggregate expr.n_unique e
over_expr over.Sort e = expr.sort e

-- the expression that a member of a form is: its value is given, with the expression that the value
-- is, if it is one, and the parts of a list
abbrev pub formed : Form → Data → Option Expr → List Part → Option Expr
formed form.Col d e parts = json_column d
formed form.Lit d e parts = literal_of (pair_of d)
formed form.Cast d e parts = cast_of (two_parts parts)
formed form.Op d e parts = binary_of (three_parts parts)
formed form.If d e parts = ternary_of (three_parts parts)
formed form.Alias d e parts = alias_of (two_parts parts)
formed form.Len d e parts = length_of d
formed form.Filter d e parts = filter_of (two_parts parts)
formed (form.Of o) d e parts = option_map (over_expr o) e

-- ---- all levels

-- a text is a column, and an object of one member has that member's form
abbrev mutual
  -- the expression that a value is
  pub expr_of : Data → Option Expr
  expr_of null = None
  expr_of (boolean b) = None
  expr_of (number n) = None
  expr_of (string name) = Some (expr.column name)
  expr_of (array ds) = None
  expr_of (object ms) = sole_expr ms

  -- that of an object's one member
  pub sole_expr : Members → Option Expr
  sole_expr no_members = None
  sole_expr (member name d no_members) =
      option_and_then (λ f. formed f d (expr_of d) (parts_of d)) (form_named name)
  sole_expr (member name d (member k e ms)) = None

  -- the parts of a list, none for any other value
  pub parts_of : Data → List Part
  parts_of null = []
  parts_of (boolean b) = []
  parts_of (number n) = []
  parts_of (string s) = []
  parts_of (array ds) = item_parts ds
  parts_of (object ms) = []

  -- a part for each item
  pub item_parts : Items → List Part
  item_parts no_items = []
  item_parts (item d ds) = record { json = d; expr = expr_of d } ∷ item_parts ds

-- the part that a value is
abbrev pub part_of : Data → Part
part_of d = record { json = d; expr = expr_of d }

-- the expressions that a list's items are
abbrev pub exprs_of : Items → Option (List Expr)
exprs_of no_items = Some []
exprs_of (item d ds) = option_and_then (λ e. option_map (λ es. e ∷ es) (exprs_of ds)) (expr_of d)
