use Rattle.std.proofs.Common.{refl}
use Rattle.serde_json.proofs.OnLiterals.{serde_json_on_literals}
use Rattle.summary_words.proofs.worked.words_that_ask.Goals as goal

pub returns-clause-add : goal.returns-clause-add
unfolding serde_json_on_literals
returns-clause-add c = refl

pub returns-clause-show : goal.returns-clause-show
unfolding serde_json_on_literals
returns-clause-show c = refl

pub returns-clause-cut : goal.returns-clause-cut
unfolding serde_json_on_literals
returns-clause-cut c = refl

pub returns-clause-ordered : goal.returns-clause-ordered
unfolding serde_json_on_literals
returns-clause-ordered c = refl
