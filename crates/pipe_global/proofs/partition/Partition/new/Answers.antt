use Rattle.std.proofs.Common.{◌≡◌, ◌∙◌, sym, ap, subst, length}
use Rattle.pipe_plan.specs.Run.{StoreSeen}
use Rattle.pipe_global.specs.Partition.{IsCounted, IsReplayed, new_partition, PartitionSeen}
use Rattle.pipe_global.proofs.Beginning.{counted-none, replayed-none}
use Rattle.pipe_global.proofs.partition.Partition.new.Goals as goal

pub invariant_of-result : goal.invariant_of-result
invariant_of-result g c =
    let r = g.R.Naming.run in
    let table = c.args.place.table in
    let book = c.args.place.book.items in
    let store : StoreSeen = record { held = g.S.SpillStore.held c.args.store; told = g.S.SpillStore.told c.args.store; faults = g.S.SpillStore.faults c.args.store; sure = g.S.SpillStore.sure c.args.store; path = g.S.SpillStore.path c.args.store } in
    let is : c.new.result ≡ new_partition c.args.number c.args.partitions table book store = c.new.ensures in (
      c.requires.run,
      subst (λ (x : PartitionSeen). IsReplayed r x.number x) (sym is)
          (replayed-none r c.args.number c.args.partitions table book store c.requires.run c.requires.exists c.requires.partitions c.requires.book c.requires.shape c.requires.table.0 c.requires.table.1 c.requires.store),
      subst (λ (x : PartitionSeen). IsCounted r c.args.fault_part.amount x) (sym is)
          (counted-none r c.args.fault_part.amount c.args.number c.args.partitions table book store c.requires.fault_part.1 c.requires.store),
      c.requires.limit,
      c.requires.event_part.0,
      c.requires.event_part.1 ∙ ap (λ (x : PartitionSeen). length x.journal) (sym is),
      c.requires.fault_part.0,
    )
