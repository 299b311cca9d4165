use Rattle.std.proofs.Common.{◌∙◌, ap, sym, List}
use Rattle.pipe_columns.specs.declared.any_value.AnyValue.{AnyValue}
use Rattle.pipe_columns.specs.AnyValue.{value_cmp}
use Rattle.pipe_columns.specs.Frame.{value_at}
use Rattle.lavzimo_rows.proofs.KeyFacts.{compared_alike, compared_all, compared_apart, no_tie, tie}
use Rattle.lavzimo_rows.proofs.by_key.compare_rows.Goals as goal

pub returns-then-ne : goal.returns-then-ne
returns-then-ne c =
    let a = c.args.a in
    let b = c.args.b in
    let made = c.compare_values-order.ensures ∙ ap (λ (vs : List AnyValue). value_cmp (value_at vs a) (value_at vs b)) c.values.ensures.values in
    compared_apart c.args.columns.now c.loop-column.column-index a b c.column-item.result _ c.compare_values-order.result c.loop-column-test.true c.column-item.is c.loop-column.invariant made (no_tie c.compare_values-order.result (sym c.ne.ensures ∙ c.if-ne.true))

pub loop-column-preserved : goal.loop-column-preserved
loop-column-preserved c =
    let a = c.args.a in
    let b = c.args.b in
    let made = c.compare_values-order.ensures ∙ ap (λ (vs : List AnyValue). value_cmp (value_at vs a) (value_at vs b)) c.values.ensures.values in
    compared_alike c.args.columns.now c.loop-column.column-index a b c.column-item.result _ c.compare_values-order.result c.loop-column-test.true c.column-item.is c.loop-column.invariant made (tie c.compare_values-order.result (sym c.ne.ensures ∙ c.if-ne.false))

pub returns : goal.returns
returns c = compared_all c.args.columns.now c.loop-column.column-index c.args.a c.args.b _ c.loop-column-test.false c.loop-column.invariant
