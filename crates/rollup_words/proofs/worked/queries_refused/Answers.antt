use Rattle.std.proofs.Common.{refl}
use Rattle.serde_json.proofs.OnLiterals.{serde_json_on_literals}
use Rattle.rollup_words.proofs.worked.queries_refused.Goals as goal

pub returns-clause-cut : goal.returns-clause-cut
unfolding serde_json_on_literals
returns-clause-cut c = refl

pub returns-clause-list : goal.returns-clause-list
unfolding serde_json_on_literals
returns-clause-list c = refl

pub returns-clause-keyless : goal.returns-clause-keyless
unfolding serde_json_on_literals
returns-clause-keyless c = refl

pub returns-clause-sliced : goal.returns-clause-sliced
unfolding serde_json_on_literals
returns-clause-sliced c = refl

pub returns-clause-ordered : goal.returns-clause-ordered
unfolding serde_json_on_literals
returns-clause-ordered c = refl
