-- As many inputs as types, and one more is appended.
use Rattle.std.proofs.Common.{arith, rules}
use Rattle.pipe_columns.specs.declared.data_type.DataType.TheVariants as dt
use Rattle.pipe_inputs.specs.ChunkRows.{row_at}
use Rattle.pipe_waiting.proofs.Appending.{at_place, none_yet, one_more, place_fits, tuple_whole}
use Rattle.pipe_waiting.proofs.append_row.append_lent.Goals as goal

pub append_value-requires : goal.append_value-requires
append_value-requires c =
    let types = c.args.types.now in
    let inputs = (row_at c.args.rows.now c.args.row).inputs in
    place_fits types inputs c.loop-i.i dt.Boolean c.input.result.now c.requires.typed c.loop-i-test.true
    (at_place types inputs c.loop-i.i c.input.result.now c.requires.typed c.loop-i-test.true c.input.ensures)

pub loop-i-init : goal.loop-i-init
loop-i-init c = none_yet c.args.types.now (row_at c.args.rows.now c.args.row).inputs c.args.buffer.now.items

pub loop-i-preserved : goal.loop-i-preserved
loop-i-preserved c =
    let types = c.args.types.now in
    let inputs = (row_at c.args.rows.now c.args.row).inputs in
    one_more types inputs c.args.buffer.now.items c.loop-i.buffer.items c.append_value.new.buffer.items c.loop-i.i dt.Boolean c.input.result.now
    c.requires.typed c.loop-i-test.true c.loop-i.invariant
    (at_place types inputs c.loop-i.i c.input.result.now c.requires.typed c.loop-i-test.true c.input.ensures)
    c.append_value.ensures.value (search rules)

pub returns-clause-tuple : goal.returns-clause-tuple
returns-clause-tuple c =
    tuple_whole c.args.types.now (row_at c.args.rows.now c.args.row).inputs c.args.buffer.now.items c.loop-i.buffer.items c.loop-i.i c.requires.typed (omega arith) c.loop-i.invariant
