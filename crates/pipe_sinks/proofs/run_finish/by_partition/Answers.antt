use Rattle.std.proofs.Common.{◌∙◌}
use Rattle.pipe_sinks.proofs.GaveFacts.{part-answer}
use Rattle.pipe_sinks.proofs.MarkFacts.{marked}
use Rattle.pipe_sinks.proofs.RunFacts.{holds-no_chunk}
use Rattle.pipe_sinks.proofs.run_finish.by_partition.Goals as goal

pub returns-clause-answer : goal.returns-clause-answer
returns-clause-answer c =
    part-answer c.args.query.now (marked c.args.taken.now) c.args.table.now c.requires.sound c.requires.groupable c.requires.chunks c.requires.holds c.finalize_by_partition.ensures.table
    c.requires.unordered c.args.partitions c.slice.result c.in_ok-frame.frame c.slice.ensures c.in_ok-frame.ensures.frame

pub returns-clause-emptied : goal.returns-clause-emptied
returns-clause-emptied c = holds-no_chunk _ _ (c.in_ok-frame.ensures.emptied.1 ∙ c.requires.holds.shape) c.in_ok-frame.ensures.emptied.0
