use Rattle.std.proofs.Common.{◌≡◌, ◌∙◌, List, ap, subst, sym}
use Rattle.pipe_columns.specs.declared.data_type.DataType.{DataType}
use Rattle.pipe_spill.specs.declared.spill_row.SpillRow.{SpillRow}
use Rattle.pipe_waiting.specs.Waiting.{left_rows}
use Rattle.pipe_global.specs.Moving.{AreCovered, CanTake}
use Rattle.pipe_global.proofs.Moved.{can-take}
use Rattle.pipe_global.proofs.take.feed_lent_owned.Goals as goal

pub put_rows-requires : goal.put_rows-requires
put_rows-requires c =
    let T : List DataType = c.args.table.now.shape.input_types in
    let is : c.in_ok-owned.owned.items ≡ left_rows T c.args.rows = c.in_ok-owned.ensures ∙ ap (λ (ts : List DataType). left_rows ts c.args.rows) c.input_types.ensures in
    subst (CanTake c.reserve_rows.new.table) (sym is)
    (can-take c.args.table.now c.reserve_rows.new.table (left_rows T c.args.rows) c.requires.rows c.reserve_rows.ensures.same
    (subst (AreCovered c.reserve_rows.new.table.groups) (c.deref.ensures.value ∙ is) c.in_ok-reserve_rows.ensures.covered))
