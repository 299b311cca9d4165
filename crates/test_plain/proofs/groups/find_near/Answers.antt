use Rattle.std.proofs.Common.{arith, rules, ◌≡◌, ◌<◌, List, length}
use Rattle.std.specs.declared.cmp.Ordering.TheVariants.{Equal}
use Rattle.pipe_columns.specs.declared.any_value.AnyValue.{AnyValue}
use Rattle.pipe_model.specs.Answer.{tuple_cmp}
use Rattle.test_plain.specs.declared.groups.Group.{Group}
use Rattle.pipe_inputs.specs.ChunkRows.{row_at}
use Rattle.test_plain.proofs.SpotFacts.{spot_at}
use Rattle.test_plain.proofs.groups.find_near.Goals as goal

pub returns-then-eq : goal.returns-then-eq
returns-then-eq c =
    let key : List AnyValue = (row_at c.args.rows.now c.args.row).key in
    let group : Group = c.index-table-guess.result in
    let within : c.args.guess < length c.args.table.now = omega (arith, c.if-guess-table.true) in
    let order : tuple_cmp key group.key.items ≡ Equal = search rules in
    spot_at key c.args.table.now c.args.guess group within c.index-table-guess.is c.requires.ascending order
