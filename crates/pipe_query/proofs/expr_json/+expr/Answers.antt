use Rattle.std.proofs.Common.{◌≡◌, List, Option, Some, option_map, rules, refl, sym, subst}
use Rattle.serde_json.specs.Find.{as_str}
use Rattle.serde_json.specs.View.{view}
use Rattle.pipe_exprs.specs.declared.expression.AExpr.{AExpr}
use Rattle.pipe_exprs.specs.declared.expression.AExpr.TheVariants as ax
use Rattle.pipe_exprs.specs.declared.expression.Node.{Node}
use Rattle.pipe_model.specs.Expr as expr
use Rattle.pipe_model.specs.Expr.{Expr}
use Rattle.pipe_query.specs.declared.json_names.Form.TheVariants as form
use Rattle.pipe_query.specs.ExprJson.{expr_of, over_expr, part_of, parts_of, three_parts, two_parts, operator_of, type_of_name}
use Rattle.pipe_query.specs.Added.{IsAdded, over_ax}
use Rattle.pipe_query.proofs.FlatFacts.{one_added, one_below, over_below, over_nodes, over_root, three_added, three_below, two_added, two_below}
use Rattle.pipe_query.proofs.PartFacts.{formed_by}
use Rattle.pipe_query.proofs.expr_json.+expr.Goals as goal

-- what an expression added whose node is there
node-added : (o : Option Expr) (old now : List AExpr) (found : Option Node) (n : Node) → found ≡ Some n → IsAdded o old now found → IsAdded o old now (Some n)
node-added o old now found n is added = subst (IsAdded o old now) is added

pub add_over-add_node-requires : goal.add_over-add_node-requires
add_over-add_node-requires t c =
    let added = node-added (expr_of (view c.args.json.now)) c.args.arena.now c.add_expr.new.arena _ c.in-Some.input c.in-Some.is c.in_ok-input.ensures in
    rw (c.over_node.ensures) (over_below c.args.over c.in-Some.input _ (one_below _ _ _ _ added))

pub add_over-returns : goal.add_over-returns
add_over-returns t c =
    let added = node-added (expr_of (view c.args.json.now)) c.args.arena.now c.add_expr.new.arena _ c.in-Some.input c.in-Some.is c.in_ok-input.ensures in
    one_added (over_ax c.args.over) (over_expr c.args.over) (over_nodes c.args.over) (over_root c.args.over)
    _ _ c.add_expr.new.arena _ c.in-Some.input _ added (search rules) (search rules)

pub add_cast-add_node-requires : goal.add_cast-add_node-requires
add_cast-add_node-requires t c =
    let added = node-added (expr_of (view c.in-Some.expr.now)) c.args.arena.now c.add_expr.new.arena _ c.in-Some-2.expr c.in-Some-2.is c.in_ok-expr.ensures in
    one_below _ _ _ _ added

pub add_cast-returns : goal.add_cast-returns
add_cast-returns t c =
    let added = node-added (expr_of (view c.in-Some.expr.now)) c.args.arena.now c.add_expr.new.arena _ c.in-Some-2.expr c.in-Some-2.is c.in_ok-expr.ensures in
    let parts : two_parts (parts_of (view c.args.json.now)) ≡ Some (part_of (view c.in-Some.expr.now), part_of (view c.in-Some.dtype.now)) = sym c.in-Some.ensures.parts in
    let dtype : type_of_name (view c.in-Some.dtype.now) ≡ Some c.in-Some-data_type.dtype = sym c.in-Some-data_type.ensures in
    rw (parts, dtype) (one_added (λ n. ax.Cast n c.in-Some-data_type.dtype) (λ e. expr.cast e c.in-Some-data_type.dtype) (λ n e. refl) (λ n e. refl)
    _ _ c.add_expr.new.arena _ c.in-Some-2.expr _ added c.in_ok-node.ensures.nodes c.in_ok-node.ensures.node)

pub add_binary-add_node-requires : goal.add_binary-add_node-requires
add_binary-add_node-requires t c =
    let left = node-added (expr_of (view c.in-Some.left.now)) c.args.arena.now c.add_expr.new.arena _ c.in-Some-2.left c.in-Some-2.is c.in_ok-left.ensures in
    let right = node-added (expr_of (view c.in-Some.right.now)) c.add_expr.new.arena c.add_expr-2.new.arena _ c.in-Some-3.right c.in-Some-3.is c.in_ok-right.ensures in
    two_below _ _ _ _ _ _ _ left right

pub add_binary-returns : goal.add_binary-returns
add_binary-returns t c =
    let left = node-added (expr_of (view c.in-Some.left.now)) c.args.arena.now c.add_expr.new.arena _ c.in-Some-2.left c.in-Some-2.is c.in_ok-left.ensures in
    let right = node-added (expr_of (view c.in-Some.right.now)) c.add_expr.new.arena c.add_expr-2.new.arena _ c.in-Some-3.right c.in-Some-3.is c.in_ok-right.ensures in
    let parts : three_parts (parts_of (view c.args.json.now)) ≡ Some (part_of (view c.in-Some.sign.now), part_of (view c.in-Some.left.now), part_of (view c.in-Some.right.now)) = sym c.in-Some.ensures.parts in
    let sign : operator_of (view c.in-Some.sign.now) ≡ Some c.in-Some-operator.op = sym c.in-Some-operator.ensures in
    rw (parts, sign) (two_added (λ a b. ax.BinaryExpr a c.in-Some-operator.op b) (λ l r. expr.binary l c.in-Some-operator.op r) (λ n l r. refl) (λ n l r. refl)
    _ _ _ c.add_expr.new.arena c.add_expr-2.new.arena _ c.in-Some-2.left c.in-Some-3.right _ left right c.in_ok-node.ensures.nodes c.in_ok-node.ensures.node)

pub add_filter-add_node-requires : goal.add_filter-add_node-requires
add_filter-add_node-requires t c =
    let input = node-added (expr_of (view c.in-Some.input.now)) c.args.arena.now c.add_expr.new.arena _ c.in-Some-2.input c.in-Some-2.is c.in_ok-input.ensures in
    let by = node-added (expr_of (view c.in-Some.by.now)) c.add_expr.new.arena c.add_expr-2.new.arena _ c.in-Some-3.by c.in-Some-3.is c.in_ok-by.ensures in
    two_below _ _ _ _ _ _ _ input by

pub add_filter-returns : goal.add_filter-returns
add_filter-returns t c =
    let input = node-added (expr_of (view c.in-Some.input.now)) c.args.arena.now c.add_expr.new.arena _ c.in-Some-2.input c.in-Some-2.is c.in_ok-input.ensures in
    let by = node-added (expr_of (view c.in-Some.by.now)) c.add_expr.new.arena c.add_expr-2.new.arena _ c.in-Some-3.by c.in-Some-3.is c.in_ok-by.ensures in
    let parts : two_parts (parts_of (view c.args.json.now)) ≡ Some (part_of (view c.in-Some.input.now), part_of (view c.in-Some.by.now)) = sym c.in-Some.ensures.parts in
    rw parts (two_added ax.Filter expr.filter (λ n l r. refl) (λ n l r. refl)
    _ _ _ c.add_expr.new.arena c.add_expr-2.new.arena _ c.in-Some-2.input c.in-Some-3.by _ input by c.in_ok-node.ensures.nodes c.in_ok-node.ensures.node)

pub add_alias-add_node-requires : goal.add_alias-add_node-requires
add_alias-add_node-requires t c =
    let added = node-added (expr_of (view c.in-Some.expr.now)) c.args.arena.now c.add_expr.new.arena _ c.in-Some-2.input c.in-Some-2.is c.in_ok-input.ensures in
    one_below _ _ _ _ added

pub add_alias-returns : goal.add_alias-returns
add_alias-returns t c =
    let added = node-added (expr_of (view c.in-Some.expr.now)) c.args.arena.now c.add_expr.new.arena _ c.in-Some-2.input c.in-Some-2.is c.in_ok-input.ensures in
    let parts : two_parts (parts_of (view c.args.json.now)) ≡ Some (part_of (view c.in-Some.expr.now), part_of (view c.in-Some.name.now)) = sym c.in-Some.ensures.parts in
    let name : as_str (view c.in-Some.name.now) ≡ Some c.in_ok-name.name = search rules in
    rw (parts, name) (one_added (λ n. ax.Alias n c.in_ok-name.name) (λ e. expr.alias e c.in_ok-name.name) (λ n e. refl) (λ n e. refl)
    _ _ c.add_expr.new.arena _ c.in-Some-2.input _ added c.in_ok-node.ensures.nodes c.in_ok-node.ensures.node)

pub add_ternary-add_node-requires : goal.add_ternary-add_node-requires
add_ternary-add_node-requires t c =
    let predicate = node-added (expr_of (view c.in-Some.predicate.now)) c.args.arena.now c.add_expr.new.arena _ c.in-Some-2.predicate c.in-Some-2.is c.in_ok-predicate.ensures in
    let truthy = node-added (expr_of (view c.in-Some.truthy.now)) c.add_expr.new.arena c.add_expr-2.new.arena _ c.in-Some-3.truthy c.in-Some-3.is c.in_ok-truthy.ensures in
    let falsy = node-added (expr_of (view c.in-Some.falsy.now)) c.add_expr-2.new.arena c.add_expr-3.new.arena _ c.in-Some-4.falsy c.in-Some-4.is c.in_ok-falsy.ensures in
    three_below _ _ _ _ _ _ _ _ _ _ predicate truthy falsy

pub add_ternary-returns : goal.add_ternary-returns
add_ternary-returns t c =
    let predicate = node-added (expr_of (view c.in-Some.predicate.now)) c.args.arena.now c.add_expr.new.arena _ c.in-Some-2.predicate c.in-Some-2.is c.in_ok-predicate.ensures in
    let truthy = node-added (expr_of (view c.in-Some.truthy.now)) c.add_expr.new.arena c.add_expr-2.new.arena _ c.in-Some-3.truthy c.in-Some-3.is c.in_ok-truthy.ensures in
    let falsy = node-added (expr_of (view c.in-Some.falsy.now)) c.add_expr-2.new.arena c.add_expr-3.new.arena _ c.in-Some-4.falsy c.in-Some-4.is c.in_ok-falsy.ensures in
    let parts : three_parts (parts_of (view c.args.json.now)) ≡ Some (part_of (view c.in-Some.predicate.now), part_of (view c.in-Some.truthy.now), part_of (view c.in-Some.falsy.now)) = sym c.in-Some.ensures.parts in
    rw parts (three_added ax.Ternary expr.ternary (λ n x y z. refl) (λ n x y z. refl)
    _ _ _ _ c.add_expr.new.arena c.add_expr-2.new.arena c.add_expr-3.new.arena _ c.in-Some-2.predicate c.in-Some-3.truthy c.in-Some-4.falsy _ predicate truthy falsy c.in_ok-node.ensures.nodes c.in_ok-node.ensures.node)

pub add_expr-returns-in-Of : goal.add_expr-returns-in-Of
add_expr-returns-in-Of t c =
    let shape : expr_of (view c.args.json.now) ≡ option_map (over_expr c.in-Of.over) (expr_of (view c.in-Some.value.now)) =
    formed_by (view c.args.json.now) (view c.in-Some.value.now) c.in-Some.name.now (form.Of c.in-Of.over) (search rules) (search rules) in
    rw shape (c.add_over.ensures)
