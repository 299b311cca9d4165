use Rattle.std.proofs.Common.{arith, ◌≡◌, ◌∙◌, ◌+◌, take, ap}
use Rattle.pipe_regroup.specs.Groups.{count_rows, groups_of}
use Rattle.pipe_regroup.proofs.FindFacts.{count-below, rows-count}
use Rattle.pipe_regroup.proofs.row_groups.RowGroups.add_rows.Goals as goal

pub add_row-requires-clause-few : goal.add_row-requires-clause-few
add_row-requires-clause-few c =
    let a = c.args.self in
    let so_far = take c.loop-row.row-index c.args.rows.now in
    let sum : count_rows (groups_of c.loop-row.self) ≡ count_rows (groups_of a) + count_rows so_far =
    ap count_rows c.loop-row.invariant.added.groups ∙ rows-count a.keep.items a.rules.items (groups_of a) so_far in
    let le = count-below c.args.rows.now c.loop-row.row-index c.row-item.result c.loop-row-test.true c.row-item.is in
    omega (arith, sum, le, c.requires.few)
