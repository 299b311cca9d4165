use Rattle.std.proofs.Common.{refl}
use Rattle.std.specs.Path.{rsplit_once}
use Rattle.clap.proofs.OnLiterals.{clap_on_literals}
use Rattle.lavzimo_words.proofs.worked.help_and_version.Goals as goal

pub returns-clause-help : goal.returns-clause-help
unfolding clap_on_literals rsplit_once
returns-clause-help c = refl

pub returns-clause-version : goal.returns-clause-version
unfolding clap_on_literals rsplit_once
returns-clause-version c = refl

pub returns-clause-unknown : goal.returns-clause-unknown
unfolding clap_on_literals rsplit_once
returns-clause-unknown c = refl
