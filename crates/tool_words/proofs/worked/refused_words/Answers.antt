use Rattle.std.proofs.Common.{refl}
use Rattle.clap.proofs.OnLiterals.{clap_on_literals}
use Rattle.serde_json.proofs.OnLiterals.{serde_json_on_literals}
use Rattle.tool_words.proofs.worked.refused_words.Goals as goal

pub returns-clause-workers : goal.returns-clause-workers
unfolding clap_on_literals serde_json_on_literals
returns-clause-workers c = refl

pub returns-clause-cut : goal.returns-clause-cut
unfolding clap_on_literals serde_json_on_literals
returns-clause-cut c = refl

pub returns-clause-list : goal.returns-clause-list
unfolding clap_on_literals serde_json_on_literals
returns-clause-list c = refl

pub returns-clause-keyless : goal.returns-clause-keyless
unfolding clap_on_literals serde_json_on_literals
returns-clause-keyless c = refl

pub returns-clause-sink : goal.returns-clause-sink
unfolding clap_on_literals serde_json_on_literals
returns-clause-sink c = refl
