use Rattle.std.proofs.Common.{refl}
use Rattle.std.specs.Int.{int_wrap}
use Rattle.pipe_model.proofs.worked.signed_sum_wraps.Goals as goal

pub returns : goal.returns
unfolding int_wrap
returns c = refl
