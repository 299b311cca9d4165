use Rattle.pipe_source.proofs.RoundFacts.{place-kept}
use Rattle.pipe_source.proofs.chunk_reader.ChunkReader.load_next.Goals as goal

pub next_text-requires-clause-place : goal.next_text-requires-clause-place
next_text-requires-clause-place g c = place-kept c.self.inside.what c.self.inside.text c.self.invariant.1
