use Rattle.std.proofs.Common.{◌≡◌, ◌∙◌, sym, true}
use Rattle.pipe_columns.proofs.AscendingFacts.{sorted_are, sorted_sole}
use Rattle.pipe_columns.proofs.laws.keys_in_order.Goals as goal

pub returns-clause-are : goal.returns-clause-are
returns-clause-are g c p order keys o h = sorted_are (λ k. p k ≡ true) order o keys h

pub returns-clause-sole : goal.returns-clause-sole
returns-clause-sole g c p order keys xs ys o h a b =
    sorted_sole (λ k. p k ≡ true) order o keys xs h a ∙ sym (sorted_sole (λ k. p k ≡ true) order o keys ys h b)
