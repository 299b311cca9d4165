use Rattle.std.proofs.Common.{◌≡◌}
use Rattle.test_writers.proofs.fed.sink_all.Given as goal

-- the sink has the schema, as before
abbrev pub invariant-loop-chunk : goal.invariant-loop-chunk
invariant-loop-chunk g l = record {
  can : (goal.iterator-loop-chunk g).can_next l.chunk-iterator;
  ends : (goal.iterator-loop-chunk g).is_finite l.chunk-iterator;
  same : l.sink.schema ≡ l.initial.sink.schema;
}
