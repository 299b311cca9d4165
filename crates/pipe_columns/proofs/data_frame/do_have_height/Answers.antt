use Rattle.std.proofs.Common.{rules, ◌≡◌, ◌<◌, length, arith}
use Rattle.pipe_columns.specs.Frame.{AreOfType}
use Rattle.pipe_columns.proofs.TypeFacts.{columns_more}
use Rattle.pipe_columns.proofs.data_frame.do_have_height.Goals as goal

pub loop-column-preserved : goal.loop-column-preserved
loop-column-preserved c =
    let column = c.column-item.result in
    let lt : c.loop-column.column-index < length c.args.columns.now = omega (arith, c.loop-column-test.true) in
    let tall : length column.values ≡ c.args.height = search rules in
    let typed : AreOfType column.dtype column.values = record { fit = c.values.ensures.fit; utf8 = c.values.ensures.utf8 } in
    columns_more c.args.height c.args.columns.now c.loop-column.column-index column lt c.column-item.is c.loop-column.invariant tall typed
