use Rattle.std.proofs.Common.{ℕ, List, Some, refl, subst}
use Rattle.pipe_exprs.specs.declared.expression.AExpr.TheVariants as ax
use Rattle.pipe_model.specs.Expr.{Expr}
use Rattle.pipe_model.specs.Expr as expr
use Rattle.pipe_query.specs.Added.{IsAdded}
use Rattle.pipe_query.proofs.FlatFacts.{one_added}
use Rattle.lavzimo_words.proofs.query.add_key.Goals as goal

pub returns : goal.returns
returns c =
    let inner : Expr = expr.column c.args.column.now.column in
    let made : IsAdded (Some (expr.alias inner c.in_ok-name.name)) c.args.arena.now c.add_node.new.arena (Some c.in_ok-node.node) =
    one_added (λ n. ax.Alias n c.in_ok-name.name) (λ e. expr.alias e c.in_ok-name.name) (λ n e. refl) (λ n e. refl)
    (Some inner) _ c.add_column.new.arena _ c.in_ok-input.input _ c.in_ok-input.ensures c.in_ok-node.ensures.nodes c.in_ok-node.ensures.node in
    subst (λ (n : List ℕ). IsAdded (Some (expr.alias inner n)) c.args.arena.now c.add_node.new.arena (Some c.in_ok-node.node)) c.in_ok-name.ensures made
