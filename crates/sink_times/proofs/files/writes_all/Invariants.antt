use Rattle.std.proofs.Common.{◌≡◌}
use Rattle.sink_times.proofs.files.writes_all.Given as goal

-- the sink has its fields, as before
abbrev pub invariant-loop-chunk : goal.invariant-loop-chunk
invariant-loop-chunk g l = record {
  can : (goal.iterator-loop-chunk g).can_next l.chunk-iterator;
  ends : (goal.iterator-loop-chunk g).is_finite l.chunk-iterator;
  schema : l.sink.schema ≡ l.initial.sink.schema;
}
