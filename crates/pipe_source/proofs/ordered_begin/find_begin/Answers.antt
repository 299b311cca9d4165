use Rattle.std.proofs.Common.{◌≡◌, true, rules}
use Rattle.pipe_source.proofs.TextRows.{header-read}
use Rattle.pipe_source.proofs.ordered_begin.find_begin.Goals as goal

pub returns-clause-rows : goal.returns-clause-rows
returns-clause-rows c = λ wanted.
    let takes = rw c.in-Some.is at c.in_ok-begin.ensures in
    let same : c.is_header.result ≡ true = search rules in
    header-read c.args.file wanted c.args.fields.now c.args.text.now c.text_start-start.result c.in-Some.begin _ c.is_header.result c.text_start-start.ensures.records takes c.is_header.ensures same c.requires.small
