use Rattle.std.proofs.Common.{◌≡◌, ◌∙◌, ap, subst, sym}
use Rattle.std.specs.Prelude.{All}
use Rattle.pipe_columns.specs.AnyValue.{HasUtf8}
use Rattle.pipe_columns.specs.Frame.{all_fit, fields_of, FrameData}
use Rattle.pipe_exprs.specs.declared.operand.Operand.TheVariants as operand
use Rattle.pipe_exprs.specs.Evaluated.{row_values}
use Rattle.pipe_model.specs.Expr.{Expr}
use Rattle.pipe_exprs.specs.Operands.{HoldsValues, node_types}
use Rattle.pipe_model.specs.Typing.{known_type}
use Rattle.pipe_exprs.specs.Trees.{tree}
use Rattle.pipe_exprs.proofs.OperandFacts.{into-rows, lent-rows, rows-fit, sized}
use Rattle.pipe_exprs.proofs.TextFacts.{rows-utf8, tree-utf8}
use Rattle.pipe_exprs.proofs.piped_expr.PipedExpr.values.Goals as goal

pub root_operand-requires : goal.root_operand-requires
root_operand-requires c = record {
  in_arena = c.requires.in_arena;
  types = c.deref.ensures.value ∙ c.in_ok-types.ensures ∙ ap (node_types c.args.arena.now) c.columns-columns.ensures.columns;
  fit = c.columns-columns.ensures.types.fit;
  typed = c.requires.typed;
}

pub into_vec-requires : goal.into_vec-requires
into_vec-requires c = sized c.args.chunk.now.frame (tree c.args.arena.now c.args.self.now.node) c.in_ok-operand.operand c.height.result c.in_ok-operand.ensures.values c.height.ensures.height

pub returns-in-Lent : goal.returns-in-Lent
returns-in-Lent c =
    let F : FrameData = c.args.chunk.now.frame in
    let T : Expr = tree c.args.arena.now c.args.self.now.node in
    let held : HoldsValues F T (operand.Lent c.in-Lent.values) = subst (HoldsValues F T) c.in-Lent.is c.in_ok-operand.ensures.values in
    let rows : c.in-Lent.values.now ≡ row_values T F = lent-rows F T c.in-Lent.values held in
    record {
      values = rows;
      utf8 = subst (All HasUtf8) (sym rows) (rows-utf8 T F c.columns-columns.ensures.types.utf8 (tree-utf8 c.args.arena.now c.args.self.now.node c.in_ok-operand.ensures.utf8));
      fit = ap (all_fit (known_type T (fields_of F.columns))) rows ∙ rows-fit F T (c.columns-columns.ensures.types.fit) c.requires.typed;
    }

pub returns : goal.returns
returns c =
    let F : FrameData = c.args.chunk.now.frame in
    let T : Expr = tree c.args.arena.now c.args.self.now.node in
    let rows = into-rows F T c.in_ok-operand.operand c.in_ok-into_vec-in_default.field-0 c.height.result c.in_ok-operand.ensures.values c.height.ensures.height c.in_ok-into_vec-in_default.ensures in
    record {
      values = rows;
      utf8 = subst (All HasUtf8) (sym rows) (rows-utf8 T F c.columns-columns.ensures.types.utf8 (tree-utf8 c.args.arena.now c.args.self.now.node c.in_ok-operand.ensures.utf8));
      fit = ap (all_fit (known_type T (fields_of F.columns))) rows ∙ rows-fit F T (c.columns-columns.ensures.types.fit) c.requires.typed;
    }
