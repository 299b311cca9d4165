use Rattle.std.proofs.Common.{rules, ◌<◌, length, arith}
use Rattle.pipe_columns.proofs.TypeFacts.{values_more}
use Rattle.pipe_columns.proofs.column.do_all_fit.Goals as goal

pub loop-value-preserved : goal.loop-value-preserved
loop-value-preserved c =
    let lt : c.loop-value.value-index < length c.args.values.now = omega (arith, c.loop-value-test.true) in
    values_more c.args.dtype c.args.values.now c.loop-value.value-index c.value-item.result lt c.value-item.is c.loop-value.invariant (search rules) c.fits.ensures.utf8
