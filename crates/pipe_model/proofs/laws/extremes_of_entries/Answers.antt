use Rattle.pipe_model.proofs.AggFacts.{greater-holds, lesser-holds}
use Rattle.pipe_model.proofs.PlaceFacts.{first-holds, last-holds}
use Rattle.pipe_model.proofs.laws.extremes_of_entries.Goals as goal

pub returns-clause-least : goal.returns-clause-least
returns-clause-least c = lesser-holds

pub returns-clause-greatest : goal.returns-clause-greatest
returns-clause-greatest c = greater-holds

pub returns-clause-first : goal.returns-clause-first
returns-clause-first c = first-holds

pub returns-clause-last : goal.returns-clause-last
returns-clause-last c = last-holds
