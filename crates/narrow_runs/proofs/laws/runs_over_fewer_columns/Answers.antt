use Rattle.narrow_runs.proofs.FewerFacts.{fewer-answered, fewer-left, fewer-payloads, fewer-plan}
use Rattle.narrow_runs.proofs.laws.runs_over_fewer_columns.Goals as goal

pub returns-clause-plans : goal.returns-clause-plans
returns-clause-plans c = fewer-plan

pub returns-clause-pieces : goal.returns-clause-pieces
returns-clause-pieces c = fewer-payloads

pub returns-clause-answered : goal.returns-clause-answered
returns-clause-answered c = fewer-answered

pub returns-clause-left : goal.returns-clause-left
returns-clause-left c = fewer-left
