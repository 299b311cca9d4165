use Rattle.std.proofs.Common.{◌≡◌, ◌∙◌, ◌<◌, ap, arith, vec_len}
use Rattle.csv.specs.Writing.{writer_under}
use Rattle.pipe_writers.proofs.CsvFacts.{one_line_more, under-within}
use Rattle.pipe_writers.proofs.csv_lines.write_rows.Goals as goal

pub returns-then-most-len-clause-wrote : goal.returns-then-most-len-clause-wrote
returns-then-most-len-clause-wrote c old written =
    let within : c.loop-row.row < c.args.frame.now.height = omega (arith, c.loop-row-test.true, c.height-row-end.ensures.height) in
    one_line_more c.args.frame.now c.args.from c.loop-row.row old _ _ within (c.loop-row.invariant old written) c.in_ok-write_row.ensures

pub loop-row-preserved : goal.loop-row-preserved
loop-row-preserved c old written =
    let within : c.loop-row.row < c.args.frame.now.height = omega (arith, c.loop-row-test.true, c.height-row-end.ensures.height) in
    one_line_more c.args.frame.now c.args.from c.loop-row.row old _ _ within (c.loop-row.invariant old written) c.in_ok-write_row.ensures

pub returns-then-most-len-clause-long : goal.returns-then-most-len-clause-long
returns-then-most-len-clause-long c text written = λ next.
    let under : c.len.result ≡ vec_len (writer_under c.write_row.new.writer) = c.len.ensures ∙ ap vec_len c.get_ref.ensures in
    under-within c.write_row.new.writer text c.args.most (omega (arith, under, c.if-most-len.true, (writer_under c.write_row.new.writer).ok.0)) written
