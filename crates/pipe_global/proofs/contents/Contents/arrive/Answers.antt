use Rattle.std.proofs.Common.{rules, ◌≡◌, ◌∙◌, ◌+◌, ◌<◌, ◌++◌, List, [], ◌∷◌, ap, length, refl, slice_index_or, subst, sym}
use Rattle.std.specs.Vec.{with_item}
use Rattle.std.proofs.lemmas.List.{get_or_default}
use Rattle.pipe_columns.specs.declared.data_type.DataType.{DataType}
use Rattle.pipe_plan.specs.declared.event.PartitionEvent.TheVariants as event
use Rattle.pipe_plan.specs.Stores.{store_seen}
use Rattle.pipe_waiting.specs.Waiting.{payload_read, waiting_rows}
use Rattle.pipe_global.specs.Partition.{PartitionSeen}
use Rattle.pipe_global.specs.Shares.{one_more_at}
use Rattle.pipe_global.specs.Steps.{with_payload}
use Rattle.pipe_global.specs.Waits.{payloads_read}
use Rattle.pipe_global.proofs.Waited.{one-count, payloads-push}
use Rattle.pipe_global.proofs.contents.Contents.arrive.Goals as goal

pub returns-clause-ok : goal.returns-clause-ok
returns-clause-ok g c =
    let T : List DataType = c.self.inside.table.shape.input_types in
    let old : PartitionSeen = record {
      number = c.self.inside.number;
      partitions = c.self.inside.partitions;
      table = c.self.inside.table;
      waiting = payloads_read T c.self.inside.waiting.items;
      store = store_seen g.S.SpillStore.held g.S.SpillStore.told g.S.SpillStore.faults g.S.SpillStore.sure g.S.SpillStore.path c.self.inside.store;
      marks = c.self.inside.marks.items;
      journal = c.self.inside.journal;
      book = c.self.inside.book.items;
      arrived = c.self.inside.arrived;
      failed = c.self.inside.failed;
    } in
    let items : c.push_reserved.new.self.items ≡ c.self.inside.waiting.items ++ c.args.rows ∷ [] = search rules in
    let waiting : payloads_read T c.push_reserved.new.self.items ≡ payloads_read T c.self.inside.waiting.items ++ payload_read T c.args.rows ∷ [] =
    ap (payloads_read T) items ∙ payloads-push T c.self.inside.waiting.items c.args.rows in
    let journal : c.push_reserved-2.new.self.items ≡ c.self.inside.journal ++ event.Arrive c.args.worker ∷ [] = search rules in
    let arrived : c.self.inside.arrived + c.len.result ≡ c.self.inside.arrived + length (waiting_rows T c.args.rows) =
    ap (λ n. c.self.inside.arrived + n) (c.len.ensures ∙ sym (one-count T c.args.rows)) in
    let at : c.index_mut.result.now ≡ slice_index_or c.self.inside.book.items c.args.worker 0 =
    c.index_mut.ensures.value ∙ get_or_default c.self.inside.book.items c.args.worker c.index_mut.result.now 0 (subst (λ (s : PartitionSeen). c.args.worker < length s.book) (sym c.self.view_is) c.requires.exists) in
    let book : (with_item c.self.inside.book c.args.worker (c.index_mut.result.now + 1)).items ≡ one_more_at c.self.inside.book.items c.args.worker = ap (λ n. (with_item c.self.inside.book c.args.worker (n + 1)).items) at in
    let new : PartitionSeen = record old {
      waiting = payloads_read T c.push_reserved.new.self.items;
      journal = c.push_reserved-2.new.self.items;
      book = (with_item c.self.inside.book c.args.worker (c.index_mut.result.now + 1)).items;
      arrived = c.self.inside.arrived + c.len.result;
    } in
    let is : new ≡ with_payload old c.args.worker (payload_read T c.args.rows) = rw (waiting, journal, book, arrived) refl in
    subst (λ (s : PartitionSeen). new ≡ with_payload s c.args.worker (payload_read s.table.shape.input_types c.args.rows)) c.self.view_is is
