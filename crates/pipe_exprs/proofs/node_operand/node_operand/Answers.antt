use Rattle.std.proofs.Common.{◌∙◌, [], ◌∷◌, refl}
use Rattle.pipe_exprs.proofs.OperandFacts.{alias-holds, as-tree, cast-holds, chosen-holds, constant-holds, first, nothing-holds, operator-holds, read, second, sized, third, tree-known, type-read, typed-operands}
use Rattle.pipe_exprs.proofs.node_operand.node_operand.Goals as goal

pub returns-in-Column : goal.returns-in-Column
returns-in-Column c = as-tree c.args.frame.now _ _ _ (tree-known c.args.arena.now c.args.node c.get.result.now _ c.get.ensures.earlier c.get.ensures.some c.in-Column.is) c.column_operand.ensures

pub returns-in_ok-try_clone-in-Literal : goal.returns-in_ok-try_clone-in-Literal
returns-in_ok-try_clone-in-Literal c = as-tree c.args.frame.now _ _ _ (tree-known c.args.arena.now c.args.node c.get.result.now _ c.get.ensures.earlier c.get.ensures.some c.in-Literal.is) (constant-holds c.args.frame.now _ _ (λ row. c.in_ok-try_clone-in-Literal.ensures))

-- ---- casts

pub slot-requires : goal.slot-requires
slot-requires c = (first c.args.frame.now c.args.arena.now c.args.slots.now c.args.node c.get.result.now _ c.in-Cast.expr [] c.get.ensures.some c.in-Cast.is refl c.requires.held).there

pub cast_rows-requires : goal.cast_rows-requires
cast_rows-requires c =
    let h = read c.args.frame.now c.args.arena.now c.args.slots.now c.in-Cast.expr c.slot.result.now (first c.args.frame.now c.args.arena.now c.args.slots.now c.args.node c.get.result.now _ c.in-Cast.expr [] c.get.ensures.some c.in-Cast.is refl c.requires.held) c.slot.ensures in
    sized c.args.frame.now _ c.slot.result.now c.height-height.result h c.height-height.ensures.height

pub returns-in_ok-values-in-Cast : goal.returns-in_ok-values-in-Cast
returns-in_ok-values-in-Cast c =
    let h = read c.args.frame.now c.args.arena.now c.args.slots.now c.in-Cast.expr c.slot.result.now (first c.args.frame.now c.args.arena.now c.args.slots.now c.args.node c.get.result.now _ c.in-Cast.expr [] c.get.ensures.some c.in-Cast.is refl c.requires.held) c.slot.ensures in
    as-tree c.args.frame.now _ _ _ (tree-known c.args.arena.now c.args.node c.get.result.now _ c.get.ensures.earlier c.get.ensures.some c.in-Cast.is) (cast-holds c.args.frame.now _ c.in-Cast.dtype c.slot.result.now c.in_ok-values-in-Cast.values c.height-height.result h c.height-height.ensures.height c.in_ok-values-in-Cast.ensures)

-- ---- operators

pub slot-requires-in-BinaryExpr : goal.slot-requires-in-BinaryExpr
slot-requires-in-BinaryExpr c = (first c.args.frame.now c.args.arena.now c.args.slots.now c.args.node c.get.result.now _ c.in-BinaryExpr.left (c.in-BinaryExpr.right ∷ []) c.get.ensures.some c.in-BinaryExpr.is refl c.requires.held).there

pub slot-requires-in-BinaryExpr-2 : goal.slot-requires-in-BinaryExpr-2
slot-requires-in-BinaryExpr-2 c = (second c.args.frame.now c.args.arena.now c.args.slots.now c.args.node c.get.result.now _ c.in-BinaryExpr.left c.in-BinaryExpr.right [] c.get.ensures.some c.in-BinaryExpr.is refl c.requires.held).there

pub operator_rows-requires : goal.operator_rows-requires
operator_rows-requires c =
    let h = read c.args.frame.now c.args.arena.now c.args.slots.now c.in-BinaryExpr.left c.slot-in-BinaryExpr.result.now (first c.args.frame.now c.args.arena.now c.args.slots.now c.args.node c.get.result.now _ c.in-BinaryExpr.left (c.in-BinaryExpr.right ∷ []) c.get.ensures.some c.in-BinaryExpr.is refl c.requires.held) c.slot-in-BinaryExpr.ensures in
    let k = read c.args.frame.now c.args.arena.now c.args.slots.now c.in-BinaryExpr.right c.slot-in-BinaryExpr-2.result.now (second c.args.frame.now c.args.arena.now c.args.slots.now c.args.node c.get.result.now _ c.in-BinaryExpr.left c.in-BinaryExpr.right [] c.get.ensures.some c.in-BinaryExpr.is refl c.requires.held) c.slot-in-BinaryExpr-2.ensures in
    let known = c.type_at-dtype.ensures ∙ type-read c.args.arena.now c.args.frame.now.columns c.args.types.now c.in-BinaryExpr.left c.requires.types in
    let typed = rw (tree-known c.args.arena.now c.args.node c.get.result.now _ c.get.ensures.earlier c.get.ensures.some c.in-BinaryExpr.is) at c.requires.typed in
    let parts = typed-operands _ _ c.in-BinaryExpr.op c.args.frame.now c.slot-in-BinaryExpr.result.now c.slot-in-BinaryExpr-2.result.now c.type_at-dtype.result c.height-height.result c.requires.fit typed h k known c.height-height.ensures.height in
    record {
      typed = parts.0;
      left = sized c.args.frame.now _ c.slot-in-BinaryExpr.result.now c.height-height.result h c.height-height.ensures.height;
      right = sized c.args.frame.now _ c.slot-in-BinaryExpr-2.result.now c.height-height.result k c.height-height.ensures.height;
      fits_left = parts.1;
      fits_right = parts.2;
    }

pub returns-in_ok-values-in-BinaryExpr : goal.returns-in_ok-values-in-BinaryExpr
returns-in_ok-values-in-BinaryExpr c =
    let h = read c.args.frame.now c.args.arena.now c.args.slots.now c.in-BinaryExpr.left c.slot-in-BinaryExpr.result.now (first c.args.frame.now c.args.arena.now c.args.slots.now c.args.node c.get.result.now _ c.in-BinaryExpr.left (c.in-BinaryExpr.right ∷ []) c.get.ensures.some c.in-BinaryExpr.is refl c.requires.held) c.slot-in-BinaryExpr.ensures in
    let k = read c.args.frame.now c.args.arena.now c.args.slots.now c.in-BinaryExpr.right c.slot-in-BinaryExpr-2.result.now (second c.args.frame.now c.args.arena.now c.args.slots.now c.args.node c.get.result.now _ c.in-BinaryExpr.left c.in-BinaryExpr.right [] c.get.ensures.some c.in-BinaryExpr.is refl c.requires.held) c.slot-in-BinaryExpr-2.ensures in
    let known = c.type_at-dtype.ensures ∙ type-read c.args.arena.now c.args.frame.now.columns c.args.types.now c.in-BinaryExpr.left c.requires.types in
    as-tree c.args.frame.now _ _ _ (tree-known c.args.arena.now c.args.node c.get.result.now _ c.get.ensures.earlier c.get.ensures.some c.in-BinaryExpr.is) (operator-holds c.args.frame.now _ _ c.in-BinaryExpr.op c.type_at-dtype.result c.slot-in-BinaryExpr.result.now c.slot-in-BinaryExpr-2.result.now c.in_ok-values-in-BinaryExpr.values c.height-height.result h k known c.height-height.ensures.height c.in_ok-values-in-BinaryExpr.ensures)

-- ---- choices

pub slot-requires-in-Ternary : goal.slot-requires-in-Ternary
slot-requires-in-Ternary c = (first c.args.frame.now c.args.arena.now c.args.slots.now c.args.node c.get.result.now _ c.in-Ternary.predicate (c.in-Ternary.truthy ∷ c.in-Ternary.falsy ∷ []) c.get.ensures.some c.in-Ternary.is refl c.requires.held).there

pub slot-requires-in-Ternary-2 : goal.slot-requires-in-Ternary-2
slot-requires-in-Ternary-2 c = (second c.args.frame.now c.args.arena.now c.args.slots.now c.args.node c.get.result.now _ c.in-Ternary.predicate c.in-Ternary.truthy (c.in-Ternary.falsy ∷ []) c.get.ensures.some c.in-Ternary.is refl c.requires.held).there

pub slot-requires-in-Ternary-3 : goal.slot-requires-in-Ternary-3
slot-requires-in-Ternary-3 c = (third c.args.frame.now c.args.arena.now c.args.slots.now c.args.node c.get.result.now _ c.in-Ternary.predicate c.in-Ternary.truthy c.in-Ternary.falsy c.get.ensures.some c.in-Ternary.is refl c.requires.held).there

pub chosen_rows-requires : goal.chosen_rows-requires
chosen_rows-requires c =
    let h = read c.args.frame.now c.args.arena.now c.args.slots.now c.in-Ternary.predicate c.slot-in-Ternary.result.now (first c.args.frame.now c.args.arena.now c.args.slots.now c.args.node c.get.result.now _ c.in-Ternary.predicate (c.in-Ternary.truthy ∷ c.in-Ternary.falsy ∷ []) c.get.ensures.some c.in-Ternary.is refl c.requires.held) c.slot-in-Ternary.ensures in
    let k = read c.args.frame.now c.args.arena.now c.args.slots.now c.in-Ternary.truthy c.slot-in-Ternary-2.result.now (second c.args.frame.now c.args.arena.now c.args.slots.now c.args.node c.get.result.now _ c.in-Ternary.predicate c.in-Ternary.truthy (c.in-Ternary.falsy ∷ []) c.get.ensures.some c.in-Ternary.is refl c.requires.held) c.slot-in-Ternary-2.ensures in
    let m = read c.args.frame.now c.args.arena.now c.args.slots.now c.in-Ternary.falsy c.slot-in-Ternary-3.result.now (third c.args.frame.now c.args.arena.now c.args.slots.now c.args.node c.get.result.now _ c.in-Ternary.predicate c.in-Ternary.truthy c.in-Ternary.falsy c.get.ensures.some c.in-Ternary.is refl c.requires.held) c.slot-in-Ternary-3.ensures in
    record {
      predicate = sized c.args.frame.now _ c.slot-in-Ternary.result.now c.height-height.result h c.height-height.ensures.height;
      truthy = sized c.args.frame.now _ c.slot-in-Ternary-2.result.now c.height-height.result k c.height-height.ensures.height;
      falsy = sized c.args.frame.now _ c.slot-in-Ternary-3.result.now c.height-height.result m c.height-height.ensures.height;
    }

pub returns-in_ok-values-in-Ternary : goal.returns-in_ok-values-in-Ternary
returns-in_ok-values-in-Ternary c =
    let h = read c.args.frame.now c.args.arena.now c.args.slots.now c.in-Ternary.predicate c.slot-in-Ternary.result.now (first c.args.frame.now c.args.arena.now c.args.slots.now c.args.node c.get.result.now _ c.in-Ternary.predicate (c.in-Ternary.truthy ∷ c.in-Ternary.falsy ∷ []) c.get.ensures.some c.in-Ternary.is refl c.requires.held) c.slot-in-Ternary.ensures in
    let k = read c.args.frame.now c.args.arena.now c.args.slots.now c.in-Ternary.truthy c.slot-in-Ternary-2.result.now (second c.args.frame.now c.args.arena.now c.args.slots.now c.args.node c.get.result.now _ c.in-Ternary.predicate c.in-Ternary.truthy (c.in-Ternary.falsy ∷ []) c.get.ensures.some c.in-Ternary.is refl c.requires.held) c.slot-in-Ternary-2.ensures in
    let m = read c.args.frame.now c.args.arena.now c.args.slots.now c.in-Ternary.falsy c.slot-in-Ternary-3.result.now (third c.args.frame.now c.args.arena.now c.args.slots.now c.args.node c.get.result.now _ c.in-Ternary.predicate c.in-Ternary.truthy c.in-Ternary.falsy c.get.ensures.some c.in-Ternary.is refl c.requires.held) c.slot-in-Ternary-3.ensures in
    as-tree c.args.frame.now _ _ _ (tree-known c.args.arena.now c.args.node c.get.result.now _ c.get.ensures.earlier c.get.ensures.some c.in-Ternary.is) (chosen-holds c.args.frame.now _ _ _ c.slot-in-Ternary.result.now c.slot-in-Ternary-2.result.now c.slot-in-Ternary-3.result.now c.in_ok-values-in-Ternary.values c.height-height.result h k m c.height-height.ensures.height c.in_ok-values-in-Ternary.ensures)

-- ---- aliases, and what has no value in a row

pub slot-requires-in-Alias : goal.slot-requires-in-Alias
slot-requires-in-Alias c = (first c.args.frame.now c.args.arena.now c.args.slots.now c.args.node c.get.result.now _ c.in-Alias.input [] c.get.ensures.some c.in-Alias.is refl c.requires.held).there

pub try_clone-requires-in-Alias : goal.try_clone-requires-in-Alias
try_clone-requires-in-Alias c =
    let h = read c.args.frame.now c.args.arena.now c.args.slots.now c.in-Alias.input c.slot-in-Alias.result.now (first c.args.frame.now c.args.arena.now c.args.slots.now c.args.node c.get.result.now _ c.in-Alias.input [] c.get.ensures.some c.in-Alias.is refl c.requires.held) c.slot-in-Alias.ensures in
    sized c.args.frame.now _ c.slot-in-Alias.result.now c.height-height.result h c.height-height.ensures.height

pub returns-in-Alias : goal.returns-in-Alias
returns-in-Alias c =
    let h = read c.args.frame.now c.args.arena.now c.args.slots.now c.in-Alias.input c.slot-in-Alias.result.now (first c.args.frame.now c.args.arena.now c.args.slots.now c.args.node c.get.result.now _ c.in-Alias.input [] c.get.ensures.some c.in-Alias.is refl c.requires.held) c.slot-in-Alias.ensures in
    alias-holds c.args.frame.now _ _ c.slot-in-Alias.result.now c.try_clone-in-Alias.result c.height-height.result (tree-known c.args.arena.now c.args.node c.get.result.now _ c.get.ensures.earlier c.get.ensures.some c.in-Alias.is) h c.height-height.ensures.height c.try_clone-in-Alias.ensures

pub returns-in-Agg : goal.returns-in-Agg
returns-in-Agg c = nothing-holds c.args.arena.now c.args.node c.get.result.now c.args.frame.now c.get.ensures.earlier c.get.ensures.some c.in-Agg.is
