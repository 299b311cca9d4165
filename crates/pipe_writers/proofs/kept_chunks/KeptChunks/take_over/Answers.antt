use Rattle.std.proofs.Common.{rules}
use Rattle.pipe_writers.proofs.KeptFacts.{kept-together}
use Rattle.pipe_writers.proofs.kept_chunks.KeptChunks.take_over.Goals as goal

pub invariant_of-self-2 : goal.invariant_of-self-2
invariant_of-self-2 c =
    rw c.in_ok-append_kept.ensures.ok (kept-together _ _ _ _ _ _ (search rules) c.self.invariant c.other.invariant)
