use Rattle.std.proofs.Common.{◌≡◌, List, map}
use Rattle.std.proofs.lemmas.List.Elements.{All-weaker}
use Rattle.pipe_model.specs.Query.{QueryTree}
use Rattle.pipe_states.proofs.laws.merging_law.Goals as goal
use Rattle.pipe_states.proofs.PartFacts.{parts-distinct}
use Rattle.pipe_states.proofs.RangeFacts.{follow-apart, Ordered, parts-apart}
use Rattle.pipe_states.proofs.RegroupFacts.{merged_rows-are}
use Rattle.pipe_states.specs.Fair.{IsFair}
use Rattle.pipe_states.specs.Parts.{LieApart, Part, rows_of_parts, saved}
use Rattle.pipe_states.specs.Regrouped.{end_of, first_of, merged_states}
use Rattle.pipe_states.specs.States.{state}

-- where parts lie apart
merged : (q : QueryTree) (parts : List Part) → LieApart parts
    → merged_states q (map (saved q) parts) ≡ state q (rows_of_parts parts) (first_of (map (saved q) parts)) (end_of (map (saved q) parts))
merged q parts a = λ i. record {
  first = first_of (map (saved q) parts);
  end = end_of (map (saved q) parts);
  rows = merged_rows-are q parts (λ e. parts-distinct parts a) i;
}

pub returns-clause-follow : goal.returns-clause-follow
returns-clause-follow c = λ q parts h fair f.
    merged q parts (record {
      in_range = h;
      apart = parts-apart q parts (follow-apart (map (saved q) parts) (All-weaker IsFair Ordered (λ s i. i.range) (map (saved q) parts) fair) f);
    })

pub returns-clause-apart : goal.returns-clause-apart
returns-clause-apart c = merged
