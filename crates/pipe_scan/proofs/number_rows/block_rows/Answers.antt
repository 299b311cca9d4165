use Rattle.std.proofs.Common.{arith}
use Rattle.pipe_scan.proofs.NumberRows.{rows-more}
use Rattle.pipe_scan.proofs.number_rows.block_rows.Goals as goal

pub loop-count-preserved : goal.loop-count-preserved
loop-count-preserved c =
    let inv = c.loop-count.invariant in
    let e = c.in-Some.ensures in
    let r = e.row in
    let t = r.2.row.takes in record {
      block = e.block;
      lines = e.behind;
      rows = rows-more c.args.text.now c.args.numbers.now c.args.at c.loop-count.place c.in-Some.next c.loop-count.count r.0 r.1 inv.rows r.2;
      further = λ _. omega (arith, t.1, inv.block.behind);
      within = t.2;
    }
