use Rattle.narrow_query.proofs.ExprFacts.{type-same, value-same}
use Rattle.narrow_query.proofs.laws.expressions_over_fewer_columns.Goals as goal

pub returns-clause-types : goal.returns-clause-types
returns-clause-types c = type-same

pub returns-clause-values : goal.returns-clause-values
returns-clause-values c = value-same
