use Rattle.std.proofs.Common.{rules}
use Rattle.std.specs.Int.{int_wrap}
use Rattle.pipe_native.proofs.signed.I64NumericNative.narrowed.Goals as goal

pub returns-in-Err : goal.returns-in-Err
unfolding int_wrap
returns-in-Err c = search rules
