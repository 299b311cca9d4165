use Rattle.std.proofs.Common.{arith}
use Rattle.pipe_scan.proofs.NumberRows.{rows-both}
use Rattle.pipe_scan.proofs.number_rows.skip_number_rows.Goals as goal

pub loop-count-preserved : goal.loop-count-preserved
loop-count-preserved c =
    let inv = c.loop-count.invariant in
    let e = c.block_rows-more.ensures in record {
      rows = rows-both c.args.text.now c.args.numbers.now c.args.at c.loop-count.place c.block_rows-more.result.1 c.loop-count.count c.block_rows-more.result.0 inv.rows e.rows;
      few = omega (arith, e.few, c.loop-count-test.true);
      within = e.within;
    }
