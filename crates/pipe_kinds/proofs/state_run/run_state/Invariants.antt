use Rattle.pipe_kinds.proofs.RunFacts.{FedTo}
use Rattle.pipe_kinds.proofs.state_run.run_state.Given as goal

abbrev pub invariant-loop-index : goal.invariant-loop-index
invariant-loop-index g l =
    FedTo l.chunk l.first_row l.values (g.A.AsFunction.as_function l.initial.state) l.index (g.A.AsFunction.as_function l.state)
