use Rattle.pipe_exprs.proofs.FitFacts.{value-fits}
use Rattle.pipe_exprs.proofs.TextFacts.{value-utf8}
use Rattle.pipe_exprs.proofs.laws.values_have_types.Goals as goal

pub returns-clause-fit : goal.returns-clause-fit
returns-clause-fit c = λ e frame row t held is. value-fits e frame row t held.fit is

pub returns-clause-utf8 : goal.returns-clause-utf8
returns-clause-utf8 c = λ e frame row held literals. value-utf8 e frame row held.utf8 literals
