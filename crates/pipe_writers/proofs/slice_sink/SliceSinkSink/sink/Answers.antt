use Rattle.std.proofs.Common.{ap}
use Rattle.pipe_writers.specs.Kept.{KeptData}
use Rattle.pipe_writers.proofs.KeptFacts.{stands-more}
use Rattle.pipe_writers.proofs.slice_sink.SliceSinkSink.sink.Goals as goal

pub returns-clause-taken : goal.returns-clause-taken
returns-clause-taken c chunks here =
    stands-more _ _ chunks c.args.chunk (ap (λ (k : KeptData). k.chunks) c.in_ok-is_kept.ensures.ok) here
