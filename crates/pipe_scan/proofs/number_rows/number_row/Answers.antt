use Rattle.std.proofs.Common.{arith}
use Rattle.pipe_scan.proofs.NumberCount.{goes-row}
use Rattle.pipe_scan.proofs.number_rows.number_row.Goals as goal

pub returns : goal.returns
returns c =
    goes-row c.args.text.now c.args.at c.args.place c.args.ends c.args.lines c.args.numbers.now (λ k. (c.type_inv.text k).fits) c.requires.known c.requires.some c.ranges.ends.fits c.ranges.lines.fits (omega (arith, c.if-lines-eq0.false)) c.requires.block c.requires.lines c.if-fields-numbers.false
