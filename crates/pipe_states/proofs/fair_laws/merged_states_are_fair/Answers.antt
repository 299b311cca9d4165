use Rattle.std.proofs.lemmas.List.Elements.{All-weaker}
use Rattle.pipe_states.specs.Fair.{IsFair}
use Rattle.pipe_states.proofs.GivenStates.{merged-state-of}
use Rattle.pipe_states.proofs.MergedFair.{merged-fair}
use Rattle.pipe_states.proofs.RangeFacts.{follow-apart, Ordered}
use Rattle.pipe_states.proofs.fair_laws.merged_states_are_fair.Goals as goal

pub returns-clause-of_query : goal.returns-clause-of_query
returns-clause-of_query c = merged-state-of

pub returns-clause-apart : goal.returns-clause-apart
returns-clause-apart c = λ states h f. follow-apart states (All-weaker IsFair Ordered (λ s i. i.range) states h) f

pub returns-clause-fair : goal.returns-clause-fair
returns-clause-fair c = merged-fair
