use Rattle.std.proofs.Common.{rules, arith, ◌≡◌, ◌+◌, ◌-◌, ◌/◌, ◌<◌, List, length}
use Rattle.std.specs.declared.cmp.Ordering.TheVariants.{Less, Equal, Greater}
use Rattle.pipe_columns.specs.declared.any_value.AnyValue.{AnyValue}
use Rattle.pipe_model.specs.Answer.{tuple_cmp}
use Rattle.test_plain.specs.declared.groups.Group.{Group}
use Rattle.pipe_inputs.specs.ChunkRows.{row_at}
use Rattle.test_plain.proofs.SpotFacts.{spot_above, spot_at, spot_below}
use Rattle.test_plain.proofs.groups.find.Goals as goal

pub loop-low-preserved-in-Less : goal.loop-low-preserved-in-Less
loop-low-preserved-in-Less c =
    let middle = c.loop-low.low + (c.loop-low.high - c.loop-low.low) / 2 in
    let key : List AnyValue = (row_at c.args.rows.now c.args.row).key in
    let group : Group = c.index-table-middle.result in
    let within : middle < length c.args.table.now = omega (arith, c.loop-low.invariant.within, c.loop-low-test.true) in
    let order : tuple_cmp key group.key.items ≡ Less = search rules in
    record {
      ordered = omega arith;
      within = omega arith;
      below = c.loop-low.invariant.below;
      above = spot_below key c.args.table.now middle group within c.index-table-middle.is c.requires.ascending order;
    }

pub returns-in-Equal : goal.returns-in-Equal
returns-in-Equal c =
    let middle = c.loop-low.low + (c.loop-low.high - c.loop-low.low) / 2 in
    let key : List AnyValue = (row_at c.args.rows.now c.args.row).key in
    let group : Group = c.index-table-middle.result in
    let within : middle < length c.args.table.now = omega (arith, c.loop-low.invariant.within, c.loop-low-test.true) in
    let order : tuple_cmp key group.key.items ≡ Equal = search rules in
    spot_at key c.args.table.now middle group within c.index-table-middle.is c.requires.ascending order

pub loop-low-preserved : goal.loop-low-preserved
loop-low-preserved c =
    let middle = c.loop-low.low + (c.loop-low.high - c.loop-low.low) / 2 in
    let key : List AnyValue = (row_at c.args.rows.now c.args.row).key in
    let group : Group = c.index-table-middle.result in
    let within : middle < length c.args.table.now = omega (arith, c.loop-low.invariant.within, c.loop-low-test.true) in
    let order : tuple_cmp key group.key.items ≡ Greater = search rules in
    record {
      ordered = omega (arith, c.loop-low-test.true);
      within = c.loop-low.invariant.within;
      below = spot_above key c.args.table.now middle group within c.index-table-middle.is c.requires.ascending order;
      above = c.loop-low.invariant.above;
    }
