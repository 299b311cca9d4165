use Rattle.std.proofs.Common.{◌≡◌, ◌∙◌, true, ap}
use Rattle.pipe_columns.specs.declared.data_type.DataType.{DataType}
use Rattle.pipe_columns.specs.Frame.{all_fit, fields_of, FrameData}
use Rattle.pipe_exprs.specs.Evaluated.{keeps_sorted, row_values}
use Rattle.pipe_model.specs.Expr.{Expr, name_of}
use Rattle.pipe_exprs.specs.Operands.{node_types}
use Rattle.pipe_exprs.specs.Trees.{tree}
use Rattle.pipe_model.specs.Typing.{known_type}
use Rattle.pipe_exprs.proofs.OperandFacts.{column-is, into-rows, rows-fit, sized, type-read}
use Rattle.pipe_exprs.proofs.RowFacts.{is_there}
use Rattle.pipe_exprs.proofs.piped_expr.PipedExpr.evaluate.Goals as goal

pub root_operand-requires : goal.root_operand-requires
root_operand-requires c = record {
  in_arena = c.requires.in_arena;
  types = c.deref.ensures.value ∙ c.in_ok-types.ensures ∙ ap (node_types c.args.arena.now) c.columns-columns.ensures.columns;
  fit = c.columns-columns.ensures.types.fit;
  typed = c.requires.typed;
}

pub into_vec-requires : goal.into_vec-requires
into_vec-requires c = sized c.args.chunk.now.frame (tree c.args.arena.now c.args.self.now.node) c.in_ok-operand.operand c.height.result c.in_ok-operand.ensures.values c.height.ensures.height

pub unwrap-requires : goal.unwrap-requires
unwrap-requires c =
    let F : FrameData = c.args.chunk.now.frame in
    let T : Expr = tree c.args.arena.now c.args.self.now.node in
    let rows : c.in_ok-values.values.items ≡ row_values T F = into-rows F T c.in_ok-operand.operand c.in_ok-values.values c.height.result c.in_ok-operand.ensures.values c.height.ensures.height c.in_ok-values.ensures in
    let typed : c.type_at-dtype.result ≡ known_type T (fields_of F.columns) = c.type_at-dtype.ensures
    ∙ type-read c.args.arena.now F.columns c.deref-2.result.now c.args.self.now.node (c.deref-2.ensures.value ∙ c.in_ok-types.ensures ∙ ap (node_types c.args.arena.now) c.columns-columns.ensures.columns) in
    let fit : all_fit c.type_at-dtype.result c.in_ok-values.values.items ≡ true = ap (λ (t : DataType). all_fit t c.in_ok-values.values.items) typed ∙ ap (all_fit (known_type T (fields_of F.columns))) rows
    ∙ rows-fit F T (c.columns-columns.ensures.types.fit) c.requires.typed in
    is_there c.new-2.result (all_fit c.type_at-dtype.result c.in_ok-values.values.items) c.new-2.ensures.none fit

pub returns : goal.returns
returns c =
    let F : FrameData = c.args.chunk.now.frame in
    let T : Expr = tree c.args.arena.now c.args.self.now.node in
    let rows : c.in_ok-values.values.items ≡ row_values T F = into-rows F T c.in_ok-operand.operand c.in_ok-values.values c.height.result c.in_ok-operand.ensures.values c.height.ensures.height c.in_ok-values.ensures in
    let typed : c.type_at-dtype.result ≡ known_type T (fields_of F.columns) = c.type_at-dtype.ensures
    ∙ type-read c.args.arena.now F.columns c.deref-2.result.now c.args.self.now.node (c.deref-2.ensures.value ∙ c.in_ok-types.ensures ∙ ap (node_types c.args.arena.now) c.columns-columns.ensures.columns) in
    let named : c.in_ok-name.name ≡ name_of T = c.in_ok-name.ensures ∙ c.name.ensures in
    let flagged : c.is_sorted-sorted.result ≡ keeps_sorted T F.columns = c.is_sorted-sorted.ensures ∙ ap (keeps_sorted T) c.columns-columns.ensures.columns in
    let is = rw c.unwrap.ensures at c.new-2.ensures.some in
    column-is T F c.in_ok-name.name c.type_at-dtype.result c.is_sorted-sorted.result c.in_ok-values.values.items c.unwrap.result is named typed flagged rows
