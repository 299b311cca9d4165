use Rattle.std.proofs.Common.{subst}
use Rattle.std.specs.Cmp.Lexicographic.{slice_cmp}
use Rattle.std.specs.List.Sorted.{IsSorted}
use Rattle.std.specs.Ordering.{nat_cmp, ordering_then}
use Rattle.pipe_columns.specs.Place.{place_cmp}
use Rattle.pipe_regroup.proofs.OrderFacts.{group_cmp, sorted-in_order}
use Rattle.pipe_regroup.proofs.row_groups.RowGroups.sorted.Goals as goal

pub returns : goal.returns
returns c =
    let av = c.value_order.ensures in
    let sorted : IsSorted group_cmp c.sort_unstable.new.self.items =
    subst (λ order. IsSorted order c.sort_unstable.new.self.items)
    (λ i g h. ordering_then (slice_cmp (λ a b. av a b i) g.key.items h.key.items)
    (ordering_then (place_cmp g.first h.first) (ordering_then (place_cmp g.last h.last) (ordering_then (nat_cmp g.rows h.rows) (slice_cmp (λ a b. av a b i) g.results.items h.results.items)))))
    c.sort_unstable.ensures.sorted in
    sorted-in_order c.args.self.groups.items c.sort_unstable.new.self.items c.sort_unstable.ensures.permutation sorted c.requires
