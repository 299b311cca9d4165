use Rattle.std.proofs.Common.{◌≡◌, refl, rules, true}
use Rattle.std.specs.Result.{is_ok}
use Rattle.pipe_source.proofs.ColumnLaws.{numbers-more}
use Rattle.pipe_source.proofs.source_columns.row_numbers.Goals as goal

pub loop-i-preserved : goal.loop-i-preserved
loop-i-preserved c =
    let good : is_ok c.push.result ≡ true = search rules in
    let items = rw good at c.push.ensures.items in
    rw (items, c.loop-i.invariant, numbers-more, c.row_number.ensures) refl
