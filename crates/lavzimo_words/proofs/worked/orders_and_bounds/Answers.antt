use Rattle.std.proofs.Common.{refl}
use Rattle.std.specs.Path.{rsplit_once}
use Rattle.clap.proofs.OnLiterals.{clap_on_literals}
use Rattle.lavzimo_words.proofs.worked.orders_and_bounds.Goals as goal

pub returns-clause-downwards : goal.returns-clause-downwards
unfolding clap_on_literals rsplit_once
returns-clause-downwards c = refl

pub returns-clause-query : goal.returns-clause-query
unfolding clap_on_literals rsplit_once
returns-clause-query c = refl
