use Rattle.std.proofs.Common.{refl}
use Rattle.serde_json.proofs.OnLiterals.{serde_json_on_literals}
use Rattle.rollup_words.proofs.worked.words_that_ask.Goals as goal

pub returns-clause-save : goal.returns-clause-save
unfolding serde_json_on_literals
returns-clause-save c = refl

pub returns-clause-roll : goal.returns-clause-roll
unfolding serde_json_on_literals
returns-clause-roll c = refl

pub returns-clause-turned : goal.returns-clause-turned
unfolding serde_json_on_literals
returns-clause-turned c = refl
