use Rattle.std.proofs.Common.{◌∙◌}
use Rattle.pipe_inputs.specs.ChunkRows.{row_at}
use Rattle.pipe_groups.proofs.FewInputs.{inputs-many, list-one, list-two}
use Rattle.pipe_groups.proofs.row_code.own_values.Goals as goal

pub returns-in_ok-own_input-in-1 : goal.returns-in_ok-own_input-in-1
returns-in_ok-own_input-in-1 c =
    let row = row_at c.args.rows.now c.args.row in
    let many = inputs-many c.args.rows.now c.args.row c.inputs_len.result c.inputs_len.ensures c.requires ∙ c.in-1.is in
    c.one.ensures ∙ list-one row.inputs c.in_ok-own_input-in-1.field-0 many c.in_ok-own_input-in-1.ensures

pub returns-in_ok-own_input-in-2 : goal.returns-in_ok-own_input-in-2
returns-in_ok-own_input-in-2 c =
    let row = row_at c.args.rows.now c.args.row in
    let many = inputs-many c.args.rows.now c.args.row c.inputs_len.result c.inputs_len.ensures c.requires ∙ c.in-2.is in
    c.pair.ensures ∙ list-two row.inputs c.in_ok-first-in-2.first c.in_ok-own_input-in-2.field-0 many c.in_ok-first-in-2.ensures c.in_ok-own_input-in-2.ensures
