use Rattle.std.proofs.Common.{◌<◌, arith}
use Rattle.pipe_writers.specs.JsonText.{json_line}
use Rattle.pipe_lines.proofs.LineFacts.{goes_on}
use Rattle.pipe_writers.proofs.json_lines.append_lines.Goals as goal

pub returns-then-most-len-clause-lines : goal.returns-then-most-len-clause-lines
returns-then-most-len-clause-lines c names are =
    let line = json_line names in
    let f = c.args.frame.now in
    let within : c.loop-row.row < c.args.frame.now.height = omega (arith, c.loop-row-test.true, c.height-row-end.ensures.height) in
    let on = goes_on line f c.args.from c.loop-row.row c.args.text.now.items c.loop-row.text.items within (c.loop-row.invariant names are) in
    rw (c.in_ok-append_line.ensures names are) on

pub loop-row-preserved : goal.loop-row-preserved
loop-row-preserved c names are =
    let line = json_line names in
    let f = c.args.frame.now in
    let within : c.loop-row.row < c.args.frame.now.height = omega (arith, c.loop-row-test.true, c.height-row-end.ensures.height) in
    let on = goes_on line f c.args.from c.loop-row.row c.args.text.now.items c.loop-row.text.items within (c.loop-row.invariant names are) in
    rw (c.in_ok-append_line.ensures names are) on
