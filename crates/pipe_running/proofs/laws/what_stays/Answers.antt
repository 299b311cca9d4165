use Rattle.pipe_running.proofs.KindStays.{same-after, same-fresh, same-joined}
use Rattle.pipe_running.proofs.laws.what_stays.Goals as goal

pub returns-clause-fresh : goal.returns-clause-fresh
returns-clause-fresh c = same-fresh

pub returns-clause-value : goal.returns-clause-value
returns-clause-value c = λ f p v. same-after p v f

pub returns-clause-joined : goal.returns-clause-joined
returns-clause-joined c = same-joined
