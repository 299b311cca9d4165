use Rattle.std.proofs.Common.{◌≡◌, length, drop}
use Rattle.pipe_groups.proofs.ManyFacts.{FedMany}
use Rattle.pipe_groups.proofs.feed_taken.take_states.Given as goal

-- the states so far are fed, and the inputs of the others are as before, of which there are as many
abbrev pub invariant-loop-j : goal.invariant-loop-j
invariant-loop-j l = record {
  inputs : drop l.j l.values ≡ drop l.j l.fn.values;
  size : length l.values ≡ length l.fn.values;
  fed : FedMany l.place l.fn.values l.fn.states l.states l.index l.j;
}
