-- Of the proofs alone: what the query of tests is made of.
use Rattle.std.specs.Prelude.{List, [], ◌∷◌, codes}
use Rattle.pipe_exprs.specs.declared.expression.AExpr.{AExpr}
use Rattle.pipe_exprs.specs.declared.expression.AExpr.TheVariants as ax
use Rattle.pipe_exprs.specs.declared.expression.IRAggExpr.TheVariants as ir

-- the columns k and v, the sum of v, and its name s
abbrev pub sum_arena : List AExpr
sum_arena =
    ax.Column (codes "k") ∷ ax.Column (codes "v") ∷ ax.Agg (ir.Sum (record { 0 = 1 }))
    ∷ ax.Alias (record { 0 = 2 }) (codes "s") ∷ []
