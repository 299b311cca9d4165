use Rattle.csv.specs.Records.{fields_of}
use Rattle.pipe_source.proofs.QuotedFacts.{takes-behind}
use Rattle.pipe_source.proofs.quoted_rows.QuotedRows.read.Goals as goal

pub returns-clause-row : goal.returns-clause-row
returns-clause-row c =
    let start = c.record_start-start in
    let made = c.in_ok-find_at.ensures in
    let n = made.next c.if-not-branch.false in
    let t = c.in_ok-end.ensures.taken c.args.text.now made.ahead start.result n.0 n.1 in
    takes-behind c.args.text.now c.args.at start.result c.in_ok-end.end (fields_of c.read_next.new.row) start.ensures.records start.ensures.least t

pub returns-clause-ahead : goal.returns-clause-ahead
returns-clause-ahead c = c.in_ok-end.ensures.ahead c.args.text.now c.in_ok-find_at.ensures.ahead
