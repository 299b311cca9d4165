use Rattle.std.proofs.Common.{refl}
use Rattle.std.specs.Int.{int_wrap}
use Rattle.pipe_model.proofs.worked_exprs.worked_values.Goals as goal

pub returns-clause-wraps : goal.returns-clause-wraps
unfolding int_wrap
returns-clause-wraps c = refl

pub returns-clause-least_by_minus_one : goal.returns-clause-least_by_minus_one
unfolding int_wrap
returns-clause-least_by_minus_one c = refl
