use Rattle.std.proofs.Common.{refl}
use Rattle.std.specs.Path.{rsplit_once}
use Rattle.clap.proofs.OnLiterals.{clap_on_literals}
use Rattle.lavzimo_words.proofs.worked.types_and_names.Goals as goal

pub returns-clause-said : goal.returns-clause-said
unfolding clap_on_literals rsplit_once
returns-clause-said c = refl

pub returns-clause-tail : goal.returns-clause-tail
unfolding clap_on_literals rsplit_once
returns-clause-tail c = refl

pub returns-clause-one_type : goal.returns-clause-one_type
unfolding clap_on_literals rsplit_once
returns-clause-one_type c = refl
