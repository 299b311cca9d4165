use Rattle.std.proofs.Common.{refl}
use Rattle.serde_json.proofs.OnLiterals.{serde_json_on_literals}
use Rattle.rollup_words.proofs.worked.keys_refused.Goals as goal

pub returns-clause-cut : goal.returns-clause-cut
unfolding serde_json_on_literals
returns-clause-cut c = refl

pub returns-clause-no_list : goal.returns-clause-no_list
unfolding serde_json_on_literals
returns-clause-no_list c = refl

pub returns-clause-none : goal.returns-clause-none
unfolding serde_json_on_literals
returns-clause-none c = refl

pub returns-clause-unknown : goal.returns-clause-unknown
unfolding serde_json_on_literals
returns-clause-unknown c = refl

pub returns-clause-twice : goal.returns-clause-twice
unfolding serde_json_on_literals
returns-clause-twice c = refl

pub returns-clause-aggregate : goal.returns-clause-aggregate
unfolding serde_json_on_literals
returns-clause-aggregate c = refl
