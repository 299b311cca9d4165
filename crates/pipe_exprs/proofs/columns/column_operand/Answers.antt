use Rattle.std.proofs.Common.{◌∙◌, ◌≡◌, ap, sym, Some}
use Rattle.std.specs.Prelude.{option_copied}
use Rattle.pipe_model.specs.Value.{column_named}
use Rattle.pipe_exprs.proofs.OperandFacts.{lent-holds}
use Rattle.pipe_exprs.proofs.columns.column_operand.Goals as goal

pub returns-in-Some : goal.returns-in-Some
returns-in-Some c =
    let found : column_named c.args.name.now c.args.frame.now.columns ≡ Some c.in-Some.column.now =
    sym (ap (column_named c.args.name.now) c.columns.ensures.columns) ∙ sym c.column_named.ensures ∙ ap option_copied c.in-Some.is in
    lent-holds c.args.frame.now c.args.name.now c.in-Some.column.now c.values.result found c.columns.ensures.height c.values.ensures.values
