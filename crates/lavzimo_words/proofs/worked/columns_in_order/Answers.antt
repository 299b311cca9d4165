use Rattle.std.proofs.Common.{refl}
use Rattle.std.specs.Path.{rsplit_once}
use Rattle.clap.proofs.OnLiterals.{clap_on_literals}
use Rattle.lavzimo_words.proofs.worked.columns_in_order.Goals as goal

pub returns-clause-all : goal.returns-clause-all
unfolding clap_on_literals rsplit_once
returns-clause-all c = refl

pub returns-clause-first_use : goal.returns-clause-first_use
unfolding clap_on_literals rsplit_once
returns-clause-first_use c = refl
