use Rattle.std.proofs.Common.{refl}
use Rattle.std.specs.Int.{int_wrap}
use Rattle.pipe_exprs.proofs.worked.worked_column.Goals as goal

pub returns : goal.returns
unfolding int_wrap
returns c = refl
