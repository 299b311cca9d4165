use Rattle.std.proofs.Common.{◌≡◌, rules, true}
use Rattle.std.specs.Result.{is_ok}
use Rattle.pipe_source.proofs.ColumnLaws.{index-height}
use Rattle.pipe_source.proofs.source_columns.first_columns.Goals as goal

pub returns-clause-height : goal.returns-clause-height
returns-clause-height c =
    let good : is_ok c.push.result ≡ true = search rules in
    let items = rw good at c.push.ensures.items in
    rw (items, c.in_ok-made.ensures.items, c.in_ok-column.ensures) (index-height c.args.given c.args.count c.in-Some.index)
