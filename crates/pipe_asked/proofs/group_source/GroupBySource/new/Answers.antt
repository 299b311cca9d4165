use Rattle.std.proofs.Common.{◌≡◌, ◌∙◌, [], List, ap, length, subst, sym}
use Rattle.std.specs.List.{All}
use Rattle.std.proofs.lemmas.List.Elements.{All-nil}
use Rattle.pipe_aggs.specs.QueryTrees.{query_tree}
use Rattle.pipe_groups.specs.declared.placed_groups.PlacedGroups.{PlacedGroups}
use Rattle.pipe_asked.specs.Given.{SourceSeen}
use Rattle.pipe_asked.specs.Sources.{IsPlacedFrame}
use Rattle.pipe_asked.proofs.group_source.GroupBySource.new.Goals as goal

-- nothing waits yet
pub invariant_of-result : goal.invariant_of-result
invariant_of-result g c =
    let none : c.new-placed.result.items ≡ [] = c.new-placed.ensures.items in record {
      waiting = λ order. ap (λ (l : List PlacedGroups). length l) none ∙ sym (ap (λ (s : SourceSeen). s.given) c.new-asked.ensures);
      frames = subst (All (IsPlacedFrame (query_tree c.new-asked.result.query))) (sym none) (All-nil (IsPlacedFrame (query_tree c.new-asked.result.query)));
    }
