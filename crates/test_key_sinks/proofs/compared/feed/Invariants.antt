use Rattle.std.proofs.Common.{◌≡◌}
use Rattle.pipe_sinks.specs.Runs.{purpose_of}
use Rattle.test_key_sinks.proofs.compared.feed.Given as goal

abbrev pub invariant-loop-position : goal.invariant-loop-position
invariant-loop-position g l = purpose_of l.sink ≡ purpose_of l.fn.sink
