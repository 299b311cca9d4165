use Rattle.pipe_keyed.proofs.AllFacts.{TakesAll}
use Rattle.pipe_keyed.proofs.merge.take_all.Given as goal

abbrev pub invariant-loop-from : goal.invariant-loop-from
invariant-loop-from g l = TakesAll l.initial.own l.initial.other l.own l.other l.from
