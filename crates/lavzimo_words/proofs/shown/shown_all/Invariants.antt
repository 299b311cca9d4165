use Rattle.lavzimo_words.specs.Shown.{column_type, shown_as}
use Rattle.lavzimo_words.proofs.ResultFacts.{HasGiven}
use Rattle.lavzimo_words.proofs.shown.shown_all.Given as goal

-- the columns so far before those of the rest are those of all items
abbrev pub invariant-loop-item : goal.invariant-loop-item
invariant-loop-item l = HasGiven (λ i. shown_as i (column_type l.items i.column)) l.items l.item-index l.columns.items
