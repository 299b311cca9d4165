use Rattle.std.proofs.Common.{refl}
use Rattle.std.specs.Int.{int_wrap}
use Rattle.pipe_columns.proofs.worked_types.past_signed_edges.Goals as goal

pub returns-clause-above : goal.returns-clause-above
unfolding int_wrap
returns-clause-above c = refl

pub returns-clause-below : goal.returns-clause-below
unfolding int_wrap
returns-clause-below c = refl

pub returns-clause-round : goal.returns-clause-round
unfolding int_wrap
returns-clause-round c = refl

pub returns-clause-day : goal.returns-clause-day
unfolding int_wrap
returns-clause-day c = refl

pub returns-clause-widest : goal.returns-clause-widest
unfolding int_wrap
returns-clause-widest c = refl

pub returns-clause-kept : goal.returns-clause-kept
unfolding int_wrap
returns-clause-kept c = refl
