use Rattle.std.proofs.Common.{rules, ◌≡◌, sym, subst, length, List, refl, vec_len}
use Rattle.pipe_columns.specs.declared.data_type.DataType.{DataType}
use Rattle.pipe_plan.specs.Stores.{store_seen}
use Rattle.pipe_spill.specs.SpillRow.{Payload}
use Rattle.pipe_spill.specs.declared.spill_row.SpillRow.{SpillRow}
use Rattle.pipe_waiting.specs.Waiting.{left_rows}
use Rattle.pipe_global.specs.Gathering.{HasTakenFrame, IsLast}
use Rattle.pipe_global.specs.Moving.{TookRows}
use Rattle.pipe_global.specs.Partition.{PartitionSeen}
use Rattle.pipe_global.specs.Waits.{payloads_read}
use Rattle.pipe_global.proofs.Gathered.{popped}
use Rattle.pipe_global.proofs.Waited.{same-read}
use Rattle.pipe_global.proofs.contents.Contents.take_frame.Goals as goal

pub returns-clause-ok : goal.returns-clause-ok
returns-clause-ok g c =
    let T : List DataType = c.self.inside.table.shape.input_types in
    let rows : List SpillRow = left_rows T c.args.rows in
    let took : TookRows c.self.inside.table c.take_lent.new.table rows = c.in_ok-take_lent.ensures.ok in
    let last : IsLast c.self.inside.marks.items c.args.mark = subst (λ (s : PartitionSeen). IsLast s.marks c.args.mark) (sym c.self.view_is) c.requires.last in
    let long : vec_len c.self.inside.marks ≡ length c.self.inside.marks.items = search rules in
    let old : PartitionSeen = record {
      number = c.self.inside.number;
      partitions = c.self.inside.partitions;
      table = c.self.inside.table;
      waiting = payloads_read T c.self.inside.waiting.items;
      store = store_seen g.S.SpillStore.held g.S.SpillStore.told g.S.SpillStore.faults g.S.SpillStore.sure g.S.SpillStore.path c.self.inside.store;
      marks = c.self.inside.marks.items;
      journal = c.self.inside.journal;
      book = c.self.inside.book.items;
      arrived = c.self.inside.arrived;
      failed = c.self.inside.failed;
    } in
    let same = same-read c.self.inside.table c.take_lent.new.table c.self.inside.waiting.items took.shape in
    let ok : HasTakenFrame old c.args.mark rows (record old { table = c.take_lent.new.table; marks = c.pop.new.self.items }) = record {
      taken = took;
      marks = popped c.self.inside.marks.items c.pop.new.self.items (vec_len c.self.inside.marks) c.pop.result c.args.mark long last c.pop.ensures.items c.pop.ensures.value;
      others = refl;
    } in
    let moved : HasTakenFrame old c.args.mark rows (record old { table = c.take_lent.new.table; marks = c.pop.new.self.items; waiting = payloads_read c.take_lent.new.table.shape.input_types c.self.inside.waiting.items }) =
    subst (λ (l : List Payload). HasTakenFrame old c.args.mark rows (record old { table = c.take_lent.new.table; marks = c.pop.new.self.items; waiting = l })) (sym same) ok in
    subst
    (λ (s : PartitionSeen). HasTakenFrame s c.args.mark (left_rows s.table.shape.input_types c.args.rows)
    (record old { table = c.take_lent.new.table; marks = c.pop.new.self.items; waiting = payloads_read c.take_lent.new.table.shape.input_types c.self.inside.waiting.items }))
    c.self.view_is moved
