use Rattle.std.proofs.Common.{rules, ◌≡◌, ◌∙◌, List, refl, sym, subst}
use Rattle.pipe_plan.specs.Stores.{store_seen}
use Rattle.pipe_spill.specs.SpillRow.{Payload}
use Rattle.pipe_groups.specs.Groups.{count_held}
use Rattle.pipe_keyed.specs.Tables.{HoldFewTogether}
use Rattle.pipe_global.specs.Gathering.{HasTakenLocal}
use Rattle.pipe_global.specs.Partition.{PartitionSeen}
use Rattle.pipe_global.specs.Waits.{payloads_read}
use Rattle.pipe_global.proofs.Finished.{few-together}
use Rattle.pipe_global.proofs.TakenLocal.{taken-joined, taken-whole}
use Rattle.pipe_global.proofs.Waited.{same-read}
use Rattle.pipe_global.proofs.contents.Contents.take_local.Goals as goal

pub combine_on_partition-requires-clause-few : goal.combine_on_partition-requires-clause-few
combine_on_partition-requires-clause-few g c =
    subst (λ (s : PartitionSeen). HoldFewTogether s.table c.args.local.now) (sym c.self.view_is) (few-together c.args.self.now c.args.local.now c.requires)

pub returns-then-lies_in-clause-ok : goal.returns-then-lies_in-clause-ok
returns-then-lies_in-clause-ok g c =
    let old : PartitionSeen = record {
      number = c.self.inside.number;
      partitions = c.self.inside.partitions;
      table = c.self.inside.table;
      waiting = payloads_read c.self.inside.table.shape.input_types c.self.inside.waiting.items;
      store = store_seen g.S.SpillStore.held g.S.SpillStore.told g.S.SpillStore.faults g.S.SpillStore.sure g.S.SpillStore.path c.self.inside.store;
      marks = c.self.inside.marks.items;
      journal = c.self.inside.journal;
      book = c.self.inside.book.items;
      arrived = c.self.inside.arrived;
      failed = c.self.inside.failed;
    } in
    let new : PartitionSeen = record old { table = c.exchange.new.self } in
    let none : count_held c.self.inside.table.groups ≡ 0 = search rules in
    let shape : c.args.local.now.shape ≡ c.self.inside.table.shape = subst (λ (s : PartitionSeen). c.args.local.now.shape ≡ s.table.shape) (sym c.self.view_is) c.requires.shape in
    let same = same-read c.self.inside.table c.exchange.new.self c.self.inside.waiting.items (c.exchange.ensures.own.1, c.exchange.ensures.own.2) in
    subst (λ (s : PartitionSeen). HasTakenLocal s (record old { table = c.exchange.new.self; waiting = payloads_read c.exchange.new.self.shape.input_types c.self.inside.waiting.items }) c.args.local.now c.exchange.new.other) c.self.view_is
    (subst (λ (l : List Payload). HasTakenLocal old (record old { table = c.exchange.new.self; waiting = l }) c.args.local.now c.exchange.new.other) (sym same)
    (taken-whole old new c.args.local.now c.exchange.new.other none (sym c.lies_in.ensures ∙ c.if-lies_in.true) shape c.exchange.ensures.own c.exchange.ensures.other refl))

pub returns-clause-ok : goal.returns-clause-ok
returns-clause-ok g c =
    let old : PartitionSeen = record {
      number = c.self.inside.number;
      partitions = c.self.inside.partitions;
      table = c.self.inside.table;
      waiting = payloads_read c.self.inside.table.shape.input_types c.self.inside.waiting.items;
      store = store_seen g.S.SpillStore.held g.S.SpillStore.told g.S.SpillStore.faults g.S.SpillStore.sure g.S.SpillStore.path c.self.inside.store;
      marks = c.self.inside.marks.items;
      journal = c.self.inside.journal;
      book = c.self.inside.book.items;
      arrived = c.self.inside.arrived;
      failed = c.self.inside.failed;
    } in
    let new : PartitionSeen = record old { table = c.combine_on_partition.new.self } in
    let same = same-read c.self.inside.table c.combine_on_partition.new.self c.self.inside.waiting.items c.in_ok-combine_on_partition.ensures.shape in
    subst
    (λ (s : PartitionSeen). HasTakenLocal s (record old { table = c.combine_on_partition.new.self; waiting = payloads_read c.combine_on_partition.new.self.shape.input_types c.self.inside.waiting.items }) c.args.local.now c.combine_on_partition.new.other) c.self.view_is
    (subst (λ (l : List Payload). HasTakenLocal old (record old { table = c.combine_on_partition.new.self; waiting = l }) c.args.local.now c.combine_on_partition.new.other) (sym same)
    (taken-joined old new c.args.local.now c.combine_on_partition.new.other c.in_ok-combine_on_partition.ensures.joined c.in_ok-combine_on_partition.ensures.shape
    (record { shape = c.in_ok-combine_on_partition.ensures.other_shape; held = c.in_ok-combine_on_partition.ensures.rest }) refl))
