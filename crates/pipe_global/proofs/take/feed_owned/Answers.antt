use Rattle.std.proofs.Common.{◌≡◌, ◌∙◌, List, ap, subst, sym}
use Rattle.pipe_columns.specs.declared.data_type.DataType.{DataType}
use Rattle.pipe_spill.specs.SpillRow.{joined_rows, Payload}
use Rattle.pipe_global.specs.Moving.{AreCovered, CanTake}
use Rattle.pipe_global.specs.Waits.{payloads_read, rows_read}
use Rattle.pipe_global.proofs.Moved.{can-take}
use Rattle.pipe_global.proofs.take.feed_owned.Goals as goal

pub put_payloads-requires : goal.put_payloads-requires
put_payloads-requires c =
    let T : List DataType = c.args.table.now.shape.input_types in
    let is : c.in_ok-payloads.payloads.items ≡ payloads_read T c.args.waiting.now =
    c.in_ok-payloads.ensures ∙ ap (λ (ts : List DataType). payloads_read ts c.args.waiting.now) c.input_types.ensures in
    subst (λ (ps : List Payload). CanTake c.reserve_payloads.new.table (joined_rows ps)) (sym is)
    (can-take c.args.table.now c.reserve_payloads.new.table (rows_read T c.args.waiting.now) c.requires.rows c.reserve_payloads.ensures.same
    (subst (λ (ps : List Payload). AreCovered c.reserve_payloads.new.table.groups (joined_rows ps)) (c.deref.ensures.value ∙ is) c.in_ok-reserve_payloads.ensures.covered))
