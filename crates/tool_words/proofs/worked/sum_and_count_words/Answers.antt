use Rattle.std.proofs.Common.{refl}
use Rattle.clap.proofs.OnLiterals.{clap_on_literals}
use Rattle.serde_json.proofs.OnLiterals.{serde_json_on_literals}
use Rattle.tool_words.proofs.worked.sum_and_count_words.Goals as goal

pub returns-clause-alone : goal.returns-clause-alone
unfolding clap_on_literals serde_json_on_literals
returns-clause-alone c = refl

pub returns-clause-files : goal.returns-clause-files
unfolding clap_on_literals serde_json_on_literals
returns-clause-files c = refl
