use Rattle.std.proofs.Common.{◌∙◌}
use Rattle.pipe_sinks.proofs.GaveFacts.{row-answer, rows-apart}
use Rattle.pipe_sinks.proofs.MarkFacts.{marked}
use Rattle.pipe_sinks.proofs.RunFacts.{holds-no_chunk}
use Rattle.pipe_sinks.proofs.run_finish.by_row.Goals as goal

pub finalize_by_row-requires : goal.finalize_by_row-requires
finalize_by_row-requires c = λ is. rows-apart c.args.query.now (marked c.args.taken.now) c.args.table.now c.requires.sound c.requires.groupable c.requires.chunks c.requires.holds is

pub returns-clause-answer : goal.returns-clause-answer
returns-clause-answer c =
    row-answer c.args.query.now (marked c.args.taken.now) c.args.table.now c.requires.sound c.requires.groupable c.requires.chunks c.requires.holds c.finalize_by_row.ensures.table
    c.requires.kept c.slice.result c.in_ok-frame.frame c.slice.ensures c.in_ok-frame.ensures.frame

pub returns-clause-emptied : goal.returns-clause-emptied
returns-clause-emptied c = holds-no_chunk _ _ (c.in_ok-frame.ensures.emptied.1 ∙ c.requires.holds.shape) c.in_ok-frame.ensures.emptied.0
