use Rattle.lavzimo_words.specs.Items.{item_of}
use Rattle.lavzimo_words.proofs.ResultFacts.{HasGiven}
use Rattle.lavzimo_words.proofs.pieces.lent_items.Given as goal

-- the items so far before those of the rest are those of all pieces
abbrev pub invariant-loop-i : goal.invariant-loop-i
invariant-loop-i l = HasGiven (λ p. item_of p.role p.text.now) l.pieces l.i l.items.items
