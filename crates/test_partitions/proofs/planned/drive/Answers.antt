use Rattle.std.proofs.Common.{rules, ◌≡◌, ◌∙◌, ◌++◌, ◌∷◌, [], List, Option, Some, length, ap, sym, subst, vec_len}
use Rattle.std.specs.Option.{option_to_list}
use Rattle.std.specs.List.{All}
use Rattle.pipe_plan.specs.Run.{Run, StoreSeen}
use Rattle.pipe_plan.specs.Stores.{stores_seen}
use Rattle.pipe_global.specs.Partition.{IsRunnable, PartitionSeen}
use Rattle.test_partitions.proofs.PlannedFacts.{count-seen, empty-seen, ended, opened, runnable}
use Rattle.test_partitions.proofs.planned.drive.Goals as goal

pub new-made-requires-clause-run : goal.new-made-requires-clause-run
new-made-requires-clause-run g c =
    let S = g.S.SpillStore in
    let count : length c.args.stores.items ≡ vec_len c.args.stores = search rules in
    subst IsRunnable (sym c.requires.run)
    (runnable (stores_seen S.held S.told S.faults S.sure S.path c.args.stores.items) (count-seen S.held S.told S.faults S.sure S.path c.args.stores.items (count ∙ c.requires.count))
    (empty-seen S.held S.told S.faults S.sure S.path c.args.stores.items c.requires.empty))

pub work-requires-clause-shares : goal.work-requires-clause-shares
work-requires-clause-shares g c =
    let S = g.S.SpillStore in
    let count : length c.in-Ok.shares.items ≡ vec_len c.in-Ok.shares = search rules in
    opened g.R.Naming.run (stores_seen S.held S.told S.faults S.sure S.path c.args.stores.items) c.in-Ok.shares.items c.index_mut.result.now c.requires.run
    (count ∙ c.in-Ok.ensures.len) c.in-Ok.ensures.unused c.index_mut.ensures.value

pub returns-in-Some : goal.returns-in-Some
returns-in-Some g c =
    let S = g.S.SpillStore in
    let x : PartitionSeen = c.in-Some.partition in
    let ps : List PartitionSeen = c.into_partitions-closed.result.items in
    let count : length ps ≡ vec_len c.into_partitions-closed.result = search rules in
    let two : length ps ≡ 2 = count ∙ c.into_partitions-closed.ensures.len ∙ ap (λ (q : Run). q.limits.partitions) c.requires.run in
    let popped : ps ≡ c.pop.new.self.items ++ x ∷ [] = c.pop.ensures.items ∙ ap (λ (o : Option PartitionSeen). c.pop.new.self.items ++ option_to_list o) c.in-Some.is in
    let stores : length c.args.stores.items ≡ vec_len c.args.stores = search rules in
    ended g.R.Naming.run (stores_seen S.held S.told S.faults S.sure S.path c.args.stores.items) ps c.pop.new.self.items x c.requires.run
    (count-seen S.held S.told S.faults S.sure S.path c.args.stores.items (stores ∙ c.requires.count)) (empty-seen S.held S.told S.faults S.sure S.path c.args.stores.items c.requires.empty)
    popped two c.into_partitions-closed.ensures.closed
