use Rattle.std.proofs.Common.{refl}
use Rattle.std.specs.Path.{rsplit_once}
use Rattle.clap.proofs.OnLiterals.{clap_on_literals}
use Rattle.lavzimo_words.proofs.worked.refused_words.Goals as goal

pub returns-clause-nothing : goal.returns-clause-nothing
unfolding clap_on_literals rsplit_once
returns-clause-nothing c = refl

pub returns-clause-text_sum : goal.returns-clause-text_sum
unfolding clap_on_literals rsplit_once
returns-clause-text_sum c = refl

pub returns-clause-two_types : goal.returns-clause-two_types
unfolding clap_on_literals rsplit_once
returns-clause-two_types c = refl

pub returns-clause-double : goal.returns-clause-double
unfolding clap_on_literals rsplit_once
returns-clause-double c = refl

pub returns-clause-nameless : goal.returns-clause-nameless
unfolding clap_on_literals rsplit_once
returns-clause-nameless c = refl

pub returns-clause-output : goal.returns-clause-output
unfolding clap_on_literals rsplit_once
returns-clause-output c = refl

pub returns-clause-number : goal.returns-clause-number
unfolding clap_on_literals rsplit_once
returns-clause-number c = refl

pub returns-clause-format : goal.returns-clause-format
unfolding clap_on_literals rsplit_once
returns-clause-format c = refl

pub returns-clause-beside : goal.returns-clause-beside
unfolding clap_on_literals rsplit_once
returns-clause-beside c = refl
