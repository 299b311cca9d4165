-- Literals whose texts are in UTF-8.
use Rattle.std.specs.Prelude.{List, ⊤, All}
use Rattle.pipe_columns.specs.AnyValue.{HasUtf8}
use Rattle.pipe_exprs.specs.declared.expression.AExpr.{AExpr}
use Rattle.pipe_exprs.specs.declared.expression.AExpr.TheVariants as ax
use Rattle.pipe_model.specs.Expr.{Expr}
use Rattle.pipe_model.specs.Expr as expr

-- where an expression of an arena is a literal, it is in UTF-8
abbrev pub HasUtf8Literal : AExpr → Type 0
HasUtf8Literal (ax.Literal t v) = HasUtf8 v
HasUtf8Literal e = ⊤

-- the literals of an arena's expressions are in UTF-8
abbrev pub HaveUtf8Literals : List AExpr → Type 0
HaveUtf8Literals exprs = All HasUtf8Literal exprs

-- the literals in an expression are in UTF-8
abbrev pub HasUtf8Literals : Expr → Type 0
HasUtf8Literals (expr.column name) = ⊤
HasUtf8Literals (expr.literal t v) = HasUtf8 v
HasUtf8Literals (expr.cast e t) = HasUtf8Literals e
HasUtf8Literals (expr.binary l o r) = HasUtf8Literals l × HasUtf8Literals r
HasUtf8Literals (expr.ternary p truthy falsy) =
    HasUtf8Literals p × HasUtf8Literals truthy × HasUtf8Literals falsy
HasUtf8Literals (expr.alias e name) = HasUtf8Literals e
HasUtf8Literals (expr.aggregate a e) = HasUtf8Literals e
HasUtf8Literals expr.len = ⊤
HasUtf8Literals (expr.filter e by) = HasUtf8Literals e × HasUtf8Literals by
HasUtf8Literals (expr.sort e) = HasUtf8Literals e
