-- As many values as types, and one more is appended.
use Rattle.std.proofs.Common.{◌<◌, arith, rules, length}
use Rattle.pipe_columns.specs.declared.data_type.DataType.TheVariants as dt
use Rattle.pipe_spill.proofs.Tuples.{as_long}
use Rattle.pipe_waiting.proofs.Appending.{none_yet, one_more, place_fits, tuple_whole}
use Rattle.pipe_waiting.proofs.append_row.append_inputs.Goals as goal

pub bounds-values-i : goal.bounds-values-i
bounds-values-i c = omega (arith, as_long c.args.types.now c.args.values.now c.requires)

pub offset_bounds-values-i : goal.offset_bounds-values-i
offset_bounds-values-i c =
    let b : c.loop-i.i < length c.args.values.now = omega (arith, as_long c.args.types.now c.args.values.now c.requires) in
    search rules

pub append_value-requires : goal.append_value-requires
append_value-requires c =
    place_fits c.args.types.now c.args.values.now c.loop-i.i dt.Boolean c.index-values-i.result c.requires c.loop-i-test.true c.index-values-i.is

pub loop-i-init : goal.loop-i-init
loop-i-init c = none_yet c.args.types.now c.args.values.now c.args.buffer.now.items

pub loop-i-preserved : goal.loop-i-preserved
loop-i-preserved c =
    one_more c.args.types.now c.args.values.now c.args.buffer.now.items c.loop-i.buffer.items c.append_value.new.buffer.items c.loop-i.i dt.Boolean c.index-values-i.result
    c.requires c.loop-i-test.true c.loop-i.invariant c.index-values-i.is c.append_value.ensures.value (search rules)

pub returns-clause-tuple : goal.returns-clause-tuple
returns-clause-tuple c =
    tuple_whole c.args.types.now c.args.values.now c.args.buffer.now.items c.loop-i.buffer.items c.loop-i.i c.requires (omega arith) c.loop-i.invariant
