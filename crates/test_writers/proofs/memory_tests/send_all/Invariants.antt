use Rattle.std.proofs.Common.{◌≡◌}
use Rattle.test_writers.proofs.memory_tests.send_all.Given as goal

-- the sender has the schema, as before
abbrev pub invariant-loop-chunk : goal.invariant-loop-chunk
invariant-loop-chunk g l = record {
  can : (goal.iterator-loop-chunk g).can_next l.chunk-iterator;
  ends : (goal.iterator-loop-chunk g).is_finite l.chunk-iterator;
  same : l.sender.schema ≡ l.initial.sender.schema;
}
