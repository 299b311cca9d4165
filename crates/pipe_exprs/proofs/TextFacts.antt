-- The values of an expression are in UTF-8 where its literals and the columns are.
use Rattle.std.proofs.Common.{◌≡◌, ◌++◌, ℕ, zero, suc, ℤ, Bool, true, false, List, [], ◌∷◌, get_or, Option, Some, None, unwrap_or, if◌then◌else◌, refl}
use Rattle.std.specs.Prelude.{slice_get, All}
use Rattle.std.specs.declared.cmp.Ordering.{Ordering}
use Rattle.std.specs.List.{range_with_len}
use Rattle.std.specs.Ordering.{is_eq, is_ne, is_lt, is_le, is_gt, is_ge}
use Rattle.std.specs.Str.{bytes_eq}
use Rattle.std.proofs.lemmas.List.Elements.{All-head, All-map, All-nil, All-push, All-tail}
use Rattle.pipe_columns.specs.declared.any_value.AnyValue.{AnyValue}
use Rattle.pipe_columns.specs.declared.any_value.AnyValue.TheVariants as av
use Rattle.pipe_columns.specs.declared.data_type.DataType.{DataType}
use Rattle.pipe_columns.specs.declared.data_type.DataType.TheVariants as dt
use Rattle.pipe_columns.specs.declared.operator.Operator.{Operator}
use Rattle.pipe_columns.specs.declared.operator.Operator.TheVariants as op
use Rattle.pipe_columns.specs.AnyValue.{fits, fits_number, HasUtf8}
use Rattle.pipe_columns.specs.DataType.{is_boolean}
use Rattle.pipe_columns.specs.Frame.{ColumnData, ColumnsHaveUtf8, fields_of, FrameData, value_at}
use Rattle.pipe_exprs.specs.declared.expression.AExpr.{AExpr}
use Rattle.pipe_exprs.specs.declared.expression.AExpr.TheVariants as ax
use Rattle.pipe_exprs.specs.declared.expression.Node.{Node}
use Rattle.pipe_exprs.specs.Evaluated.{row_values}
use Rattle.pipe_exprs.specs.Literals.{HasUtf8Literal, HasUtf8Literals, HaveUtf8Literals}
use Rattle.pipe_exprs.specs.Trees.{agg_input, tree, tree_of}
use Rattle.pipe_model.specs.Expr.{Expr}
use Rattle.pipe_model.specs.Expr as expr
use Rattle.pipe_model.specs.Operators.{and_values, apply, arithmetic, cast_value, chosen, comparison, exact_result, number_if_any, or_values, truth_number}
use Rattle.pipe_model.specs.Typing.{known_type}
use Rattle.pipe_model.specs.Value.{column_named, value, values_if_any}
use Rattle.pipe_exprs.proofs.FitFacts.{and-fits, comparison-fits, or-fits}
use Rattle.pipe_exprs.proofs.TreeFacts.{trees_from}

-- ---- what operators, casts and choices make

-- a truth, or null, is no text
truth-utf8 : (v : AnyValue) → fits v dt.Boolean ≡ true → HasUtf8 v
truth-utf8 av.Null h = tt
truth-utf8 (av.Boolean b) h = tt
truth-utf8 (av.Int n) h = tt
truth-utf8 (av.Text s) h = cc h

number-utf8 : (t : DataType) (n : Option ℤ) → HasUtf8 (number_if_any t n)
number-utf8 t None = tt
number-utf8 t (Some n) = tt

arithmetic-utf8 : (o : Operator) (t : DataType) (a b : AnyValue) → HasUtf8 (arithmetic o t a b)
arithmetic-utf8 o t (av.Int a) (av.Int b) = number-utf8 t (exact_result o a b)
arithmetic-utf8 o t (av.Int a) av.Null = tt
arithmetic-utf8 o t (av.Int a) (av.Boolean b) = tt
arithmetic-utf8 o t (av.Int a) (av.Text b) = tt
arithmetic-utf8 o t av.Null b = tt
arithmetic-utf8 o t (av.Boolean a) b = tt
arithmetic-utf8 o t (av.Text a) b = tt

compared-utf8 : (test : Ordering → Bool) (a b : AnyValue) → HasUtf8 (comparison test a b)
compared-utf8 test a b = truth-utf8 (comparison test a b) (comparison-fits test a b)

apply-utf8 : (o : Operator) (t : DataType) (a b : AnyValue) → HasUtf8 (apply o t a b)
apply-utf8 op.Plus t a b = arithmetic-utf8 op.Plus t a b
apply-utf8 op.Minus t a b = arithmetic-utf8 op.Minus t a b
apply-utf8 op.Multiply t a b = arithmetic-utf8 op.Multiply t a b
apply-utf8 op.FloorDivide t a b = arithmetic-utf8 op.FloorDivide t a b
apply-utf8 op.Modulus t a b = arithmetic-utf8 op.Modulus t a b
apply-utf8 op.Eq t a b = compared-utf8 is_eq a b
apply-utf8 op.NotEq t a b = compared-utf8 is_ne a b
apply-utf8 op.Lt t a b = compared-utf8 is_lt a b
apply-utf8 op.LtEq t a b = compared-utf8 is_le a b
apply-utf8 op.Gt t a b = compared-utf8 is_gt a b
apply-utf8 op.GtEq t a b = compared-utf8 is_ge a b
apply-utf8 op.And t a b = truth-utf8 (and_values a b) (and-fits a b)
apply-utf8 op.Or t a b = truth-utf8 (or_values a b) (or-fits a b)

-- a choice of two values that are in UTF-8
either : (b : Bool) (v w : AnyValue) → HasUtf8 v → HasUtf8 w → HasUtf8 (if b then v else w)
either true v w h k = h
either false v w h k = k

cast-utf8 : (t : DataType) (v : AnyValue) → HasUtf8 (cast_value t v)
cast-utf8 t av.Null = tt
cast-utf8 t (av.Boolean b) = either (is_boolean t) (av.Boolean b) (av.Int (truth_number b)) tt tt
cast-utf8 t (av.Int n) =
    either (is_boolean t) _ (if fits_number n t then av.Int n else av.Null) tt (either (fits_number n t) (av.Int n) av.Null tt tt)
cast-utf8 t (av.Text s) = tt

chosen-utf8 : (p a b : AnyValue) → HasUtf8 a → HasUtf8 b → HasUtf8 (chosen p a b)
chosen-utf8 (av.Boolean true) a b h k = h
chosen-utf8 (av.Boolean false) a b h k = k
chosen-utf8 av.Null a b h k = k
chosen-utf8 (av.Int n) a b h k = k
chosen-utf8 (av.Text s) a b h k = k

-- ---- columns

-- a value of a column, or null past its end
column_value-utf8 : (values : List AnyValue) (n : ℕ) → All HasUtf8 values → HasUtf8 (value_at values n)
column_value-utf8 [] n h = tt
column_value-utf8 (v ∷ vs) zero h = All-head HasUtf8 v vs h
column_value-utf8 (v ∷ vs) (suc n) h = column_value-utf8 vs n (All-tail HasUtf8 v vs h)

-- a value of the first column of a name
named-utf8 : (columns : List ColumnData) (name : List ℕ) (n : ℕ) → ColumnsHaveUtf8 columns → HasUtf8 (value_at (values_if_any (column_named name columns)) n)
named-utf8 [] name n h = tt
named-utf8 (c ∷ cs) name n h = by_test (bytes_eq c.name name) refl (named-utf8 cs name n (All-tail (λ d. All HasUtf8 d.values) c cs h)) where
  by_test : (b : Bool) → bytes_eq c.name name ≡ b → HasUtf8 (value_at (values_if_any (column_named name cs)) n) → HasUtf8 (value_at (values_if_any (column_named name (c ∷ cs))) n)
  by_test true s rest = rw s (column_value-utf8 c.values n (All-head (λ d. All HasUtf8 d.values) c cs h))
  by_test false s rest = rw s rest

-- ---- expressions

-- the value of an expression in a row
pub value-utf8 : (e : Expr) (frame : FrameData) (row : ℕ) → ColumnsHaveUtf8 frame.columns → HasUtf8Literals e → HasUtf8 (value e frame row)
value-utf8 (expr.column name) frame row h l = named-utf8 frame.columns name row h
value-utf8 (expr.literal t v) frame row h l = l
value-utf8 (expr.cast e t) frame row h l = cast-utf8 t (value e frame row)
value-utf8 (expr.binary a o b) frame row h l =
    apply-utf8 o (known_type a (fields_of frame.columns)) (value a frame row) (value b frame row)
value-utf8 (expr.ternary p a b) frame row h l =
    chosen-utf8 (value p frame row) (value a frame row) (value b frame row) (value-utf8 a frame row h l.1) (value-utf8 b frame row h l.2)
value-utf8 (expr.alias e name) frame row h l = value-utf8 e frame row h l
value-utf8 (expr.aggregate a e) frame row h l = tt
value-utf8 expr.len frame row h l = tt
value-utf8 (expr.filter e by) frame row h l = tt
value-utf8 (expr.sort e) frame row h l = tt

-- the values of an expression in all rows
pub rows-utf8 : (e : Expr) (frame : FrameData) → ColumnsHaveUtf8 frame.columns → HasUtf8Literals e → All HasUtf8 (row_values e frame)
rows-utf8 e frame h l =
    All-map HasUtf8 (λ (row : ℕ). value e frame row) (range_with_len 0 frame.height)
    (λ k d m. value-utf8 e frame (get_or (range_with_len 0 frame.height) k d) h l)

-- ---- the trees of an arena

tree_at-utf8 : (ts : List Expr) (i : ℕ) → All HasUtf8Literals ts → HasUtf8Literals (unwrap_or (slice_get ts i) expr.len)
tree_at-utf8 [] i h = tt
tree_at-utf8 (t ∷ ts) zero h = All-head HasUtf8Literals t ts h
tree_at-utf8 (t ∷ ts) (suc i) h = tree_at-utf8 ts i (All-tail HasUtf8Literals t ts h)

tree_of-utf8 : (ts : List Expr) (e : AExpr) → All HasUtf8Literals ts → HasUtf8Literal e → HasUtf8Literals (tree_of ts e)
tree_of-utf8 ts (ax.Column name) h l = tt
tree_of-utf8 ts (ax.Literal t v) h l = l
tree_of-utf8 ts (ax.Cast e t) h l = tree_at-utf8 ts e.0 h
tree_of-utf8 ts (ax.BinaryExpr a o b) h l = (tree_at-utf8 ts a.0 h, tree_at-utf8 ts b.0 h)
tree_of-utf8 ts (ax.Ternary p a b) h l = (tree_at-utf8 ts p.0 h, tree_at-utf8 ts a.0 h, tree_at-utf8 ts b.0 h)
tree_of-utf8 ts (ax.Alias e name) h l = tree_at-utf8 ts e.0 h
tree_of-utf8 ts (ax.Agg a) h l = tree_at-utf8 ts (agg_input a).0 h
tree_of-utf8 ts ax.Len h l = tt
tree_of-utf8 ts (ax.Filter e by) h l = (tree_at-utf8 ts e.0 h, tree_at-utf8 ts by.0 h)
tree_of-utf8 ts (ax.Sort e) h l = tree_at-utf8 ts e.0 h

trees-utf8 : (ts : List Expr) (es : List AExpr) → All HasUtf8Literals ts → HaveUtf8Literals es → All HasUtf8Literals (trees_from ts es)
trees-utf8 ts [] h l = h
trees-utf8 ts (e ∷ es) h l =
    trees-utf8 (ts ++ tree_of ts e ∷ []) es
    (All-push HasUtf8Literals ts (tree_of ts e) h (tree_of-utf8 ts e h (All-head HasUtf8Literal e es l)))
    (All-tail HasUtf8Literal e es l)

-- the tree of a node of an arena whose literals are in UTF-8
pub tree-utf8 : (exprs : List AExpr) (n : Node) → HaveUtf8Literals exprs → HasUtf8Literals (tree exprs n)
tree-utf8 exprs n h = tree_at-utf8 (trees_from [] exprs) n.0 (trees-utf8 [] exprs (All-nil HasUtf8Literals) h)
