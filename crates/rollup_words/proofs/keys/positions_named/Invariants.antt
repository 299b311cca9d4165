use Rattle.rollup_words.proofs.KeyFacts.{HavePositions}
use Rattle.rollup_words.proofs.keys.positions_named.Given as goal

-- the positions so far before those of the rest are those of the list
abbrev pub invariant-loop-value : goal.invariant-loop-value
invariant-loop-value l = HavePositions l.fields l.list l.value-index l.positions.items
