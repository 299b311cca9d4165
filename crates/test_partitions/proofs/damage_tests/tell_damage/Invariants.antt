use Rattle.pipe_global.specs.Finishing.{CanFinish}
use Rattle.test_partitions.proofs.damage_tests.tell_damage.Given as goal

-- it can be asked again
abbrev pub invariant-loop-call : goal.invariant-loop-call
invariant-loop-call l = CanFinish l.closed l.local
