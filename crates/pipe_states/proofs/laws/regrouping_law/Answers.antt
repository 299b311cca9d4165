use Rattle.pipe_states.proofs.laws.regrouping_law.Goals as goal
use Rattle.pipe_states.proofs.PartFacts.{parts-distinct}
use Rattle.pipe_states.proofs.RegroupFacts.{regrouped-is, regrouped_rows-are}
use Rattle.pipe_states.specs.Regrouped.{kept}

pub returns-clause-tuples : goal.returns-clause-tuples
returns-clause-tuples c = λ q parts keep a. regrouped_rows-are q (kept keep) parts (λ e. parts-distinct parts a)

pub returns-clause-answer : goal.returns-clause-answer
returns-clause-answer c = λ q parts keep a. regrouped-is q parts keep (λ e. parts-distinct parts a)

pub returns-clause-places : goal.returns-clause-places
returns-clause-places c = λ q parts keep d. regrouped-is q parts keep d
