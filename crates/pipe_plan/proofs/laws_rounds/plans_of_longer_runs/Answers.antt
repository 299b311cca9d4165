use Rattle.pipe_plan.proofs.Fronts.{events-on, payloads-on, picks-on, plan-on}
use Rattle.pipe_plan.proofs.laws_rounds.plans_of_longer_runs.Goals as goal

pub returns-clause-payloads : goal.returns-clause-payloads
returns-clause-payloads c = λ r s w p on some opened. payloads-on r s on w p some opened

pub returns-clause-plans : goal.returns-clause-plans
returns-clause-plans c = λ r s w p on opened. plan-on r s on w p opened

pub returns-clause-events : goal.returns-clause-events
returns-clause-events c = λ r s w p n on le. events-on r s on w p n le

pub returns-clause-picks : goal.returns-clause-picks
returns-clause-picks c = λ r s w n on le. picks-on r s on w n le
