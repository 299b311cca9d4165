use Rattle.std.proofs.Common.{◌≡◌, ◌++◌, ◌≤◌, List, ℕ, is_some}
use Rattle.pipe_files_sink.specs.Joined.{HasPut, waits_after}
use Rattle.pipe_lines.specs.Rows.{Row}
use Rattle.pipe_writers.specs.WriteOrder.{rows_of_chunks}
use Rattle.pipe_writers.specs.Writers.{IsOpen}
use Rattle.pipe_files_sink.proofs.joined_writer.JoinedWriter.put_all.Given as goal

-- the chunks so far are taken
abbrev pub invariant-loop-chunk : goal.invariant-loop-chunk
invariant-loop-chunk g l = record {
  can : (goal.iterator-loop-chunk g).can_next l.chunk-iterator;
  ends : (goal.iterator-loop-chunk g).is_finite l.chunk-iterator;
  rest : l.fn.chunks.items ≡ l.yielded ++ l.chunk-iterator.rest.items;
  stands : (rows : List Row) → (since : List ℕ) → HasPut (g.W.SinkWriter.stands l.initial.self.writer) l.initial.self.waiting rows since
      → HasPut (g.W.SinkWriter.stands l.self.writer) l.self.waiting (rows ++ rows_of_chunks l.yielded) since;
  waiting : l.self.waiting ≡ waits_after l.initial.self.least l.initial.self.waiting l.yielded;
  least : l.self.least ≡ l.initial.self.least;
  is_open : IsOpen (g.W.SinkWriter.calls l.self.writer);
  format : g.W.SinkWriter.format l.self.writer ≡ g.W.SinkWriter.format l.initial.self.writer;
  tells : is_some (g.W.SinkWriter.told l.self.writer) ≡ is_some (g.W.SinkWriter.told l.initial.self.writer);
  later : g.W.SinkWriter.faults l.initial.self.writer ≤ g.W.SinkWriter.faults l.self.writer;
}
