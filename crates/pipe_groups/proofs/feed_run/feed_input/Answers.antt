use Rattle.pipe_kinds.specs.ManyStates.{state_of}
use Rattle.pipe_groups.proofs.RunFacts.{no-text-run}
use Rattle.pipe_groups.proofs.feed_run.feed_input.Goals as goal

pub feed_run-requires-clause-plain : goal.feed_run-requires-clause-plain
feed_run-requires-clause-plain c = no-text-run c.args.chunk c.args.row c.in-Some.values.now (state_of c.args.states.now c.args.index c.args.j) (rw (c.in-Some.ensures) c.requires.plain)
