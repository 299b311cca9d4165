use Rattle.std.proofs.Common.{◌≡◌}
use Rattle.pipe_writers.specs.Writers.{IsOpen}
use Rattle.test_writers.proofs.fed.put_all.Given as goal

-- the core takes calls, and its writer has the fields of the schema
abbrev pub invariant-loop-chunk : goal.invariant-loop-chunk
invariant-loop-chunk g l = record {
  can : (goal.iterator-loop-chunk g).can_next l.chunk-iterator;
  ends : (goal.iterator-loop-chunk g).is_finite l.chunk-iterator;
  is_open : IsOpen l.core.calls;
  fields : g.W.SinkWriter.fields (g.W.SinkWriter.format l.core.writer) ≡ l.fn.schema;
}
