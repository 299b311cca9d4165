use Rattle.std.proofs.Common.{List}
use Rattle.std.specs.Vec.Iter.{into_iter_items}
use Rattle.pipe_aggs.specs.QueryTrees.{query_tree}
use Rattle.pipe_groups.specs.declared.placed_groups.PlacedGroups.{PlacedGroups}
use Rattle.pipe_asked.specs.Tasks.{AreKeptOf}
use Rattle.pipe_asked.proofs.Wholes.{IsStacked}
use Rattle.pipe_asked.proofs.side_by_side.stacked_parts.Given as goal

-- with those that are left below it, the whole is that of all
abbrev pub invariant-loop-more : goal.invariant-loop-more
invariant-loop-more g l = record {
  goes_on : (goal.iterator-loop-more g).can_next l.more-iterator;
  ends : (goal.iterator-loop-more g).is_finite l.more-iterator;
  stacked : (gs : List PlacedGroups) → AreKeptOf (λ w x. g.F.Form.is l.form w x.frame) (query_tree l.query) l.fn.wholes.items gs
      → IsStacked (g.F.Form.is l.form) (query_tree l.query) gs l.whole (into_iter_items l.more-iterator);
}
