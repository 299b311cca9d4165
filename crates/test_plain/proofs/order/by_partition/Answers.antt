use Rattle.std.proofs.Common.{List, map, subst, sym, rules}
use Rattle.std.proofs.lemmas.List.Sorted.{answers_always}
use Rattle.std.proofs.lemmas.Result.{IfOk-weaker}
use Rattle.std.specs.Ordering.{nat_cmp}
use Rattle.pipe_columns.specs.Key.{partition}
use Rattle.test_plain.specs.declared.groups.Group.{Group}
use Rattle.test_plain.specs.declared.order.Placed.{Placed}
use Rattle.pipe_columns.specs.StableSort.{IsSortedStably}
use Rattle.test_plain.proofs.PartitionFacts.{sorted_groups}
use Rattle.test_plain.proofs.order.by_partition.Goals as goal

pub returns : goal.returns
returns c =
    let part : Group → _ = λ g. partition c.args.partitions c.args.types.now g.key.items in
    let before : List Placed = c.in_ok-placed.placed.items in
    let after : List Placed = c.sort_by_key.new.self.items in
    let sort : IsSortedStably (λ p. p.partition) nat_cmp before after = record {
      moved = c.in_ok-sort_by_key.ensures.permutation;
      sorted = c.in_ok-sort_by_key.ensures.sorted (λ p. p.partition) (answers_always _ _ _ (λ f a r g h. search rules));
      stable = c.in_ok-sort_by_key.ensures.stable (λ p. p.partition) (answers_always _ _ _ (λ f a r g h. search rules));
    } in
    let groups : IsSortedStably part nat_cmp (map (λ p. p.group) before) (map (λ p. p.group) after) = sorted_groups part before after c.in_ok-placed.ensures.parts sort in
    IfOk-weaker c.groups_of.result _ _
    (λ table e. subst (IsSortedStably part nat_cmp c.args.table.items) (sym e) (subst (λ (gs : List Group). IsSortedStably part nat_cmp gs (map (λ p. p.group) after)) c.in_ok-placed.ensures.same groups)) c.groups_of.ensures
