use Rattle.pipe_groups.proofs.KeyFacts.{held-counted, held-rows}
use Rattle.pipe_groups.proofs.laws.which_keys_are_held.Goals as goal

pub returns-clause-held : goal.returns-clause-held
returns-clause-held c = λ prototypes gs rows k h. held-rows prototypes gs rows h k

pub returns-clause-counted : goal.returns-clause-counted
returns-clause-counted c = λ prototypes gs rows apart h. held-counted prototypes gs rows h apart
