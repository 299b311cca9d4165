use Rattle.std.proofs.Common.{◌≡◌, ◌+◌, ◌++◌, Bool, List, ℕ, length}
use Rattle.pipe_writer.specs.Sent.{numbered}
use Rattle.pipe_writer.specs.Wrote.{Wrote}
use Rattle.pipe_writer.specs.declared.message.SentChunk.{SentChunk}
use Rattle.pipe_writer.proofs.writing.Writing.put_rest.Given as goal

-- the chunks so far have come, with their numbers
abbrev pub invariant-loop-chunk : goal.invariant-loop-chunk
invariant-loop-chunk g l = record {
  can : (goal.iterator-loop-chunk g).can_next l.chunk-iterator;
  ends : (goal.iterator-loop-chunk g).is_finite l.chunk-iterator;
  rest : l.fn.rest.chunks.items ≡ l.yielded ++ l.chunk-iterator.rest.items;
  number : l.number ≡ l.fn.rest.first + length l.yielded;
  sender : l.sender ≡ l.fn.rest.sender;
  format : g.W.SinkWriter.format l.self.core.core.writer ≡ g.W.SinkWriter.format l.initial.self.core.core.writer;
  wrote : (made : _) → (maintain : Bool) → (morsels : ℕ) → (came : List SentChunk) → Wrote {kind = g.W.SinkWriter} made maintain morsels l.initial.self came
      → Wrote {kind = g.W.SinkWriter} made maintain morsels l.self (came ++ numbered l.fn.rest.sender l.fn.rest.first l.yielded);
}
