use Rattle.std.proofs.Common.{refl}
use Rattle.std.specs.Int.{int_wrap}
use Rattle.pipe_native.proofs.worked.kept_numbers.Goals as goal

pub returns-clause-signed : goal.returns-clause-signed
unfolding int_wrap
returns-clause-signed c = refl
