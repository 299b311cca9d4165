use Rattle.std.proofs.Common.{ap}
use Rattle.pipe_writers.specs.Kept.{KeptData}
use Rattle.pipe_writers.proofs.KeptFacts.{stands-over}
use Rattle.pipe_writers.proofs.slice_sink.SliceSink.combine.Goals as goal

pub returns-clause-stands : goal.returns-clause-stands
returns-clause-stands c chunks others here there =
    stands-over _ _ _ chunks others (ap (λ (k : KeptData). k.chunks) c.in_ok-take_over.ensures.ok) here there
