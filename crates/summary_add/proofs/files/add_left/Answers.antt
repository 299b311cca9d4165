use Rattle.std.proofs.Common.{◌∙◌, ap, refl, sym}
use Rattle.pipe_aggs.specs.declared.query.Query.{Query}
use Rattle.pipe_io.proofs.TriedFacts.{front-none}
use Rattle.pipe_states.specs.Regrouped.{end_of}
use Rattle.pipe_states.specs.Together.{total_rows}
use Rattle.summary_add.proofs.FileFacts.{left-told}
use Rattle.summary_add.proofs.files.add_left.Goals as goal

pub returns-in_default-clause-tried : goal.returns-in_default-clause-tried
returns-in_default-clause-tried g c = front-none _ _ c.args.reader.now.names refl

pub feed_left-requires-clause-fits : goal.feed_left-requires-clause-fits
feed_left-requires-clause-fits g c = λ lives bounds. c.requires.fits ∙ ap (λ (q : Query). q.schema) (sym c.in-Ok.ensures.query)

pub returns-in-Err-clause-ends : goal.returns-in-Err-clause-ends
returns-in-Err-clause-ends g c =
    left-told (g.I.InputFiles.told c.args.input.now) c.args.reader.now (total_rows c.args.summary.now.states) c.in-Ok.adding.rows (end_of c.args.summary.now.states) c.in-Ok.adding.first c.in-Err.error
    c.in-Ok.ensures.rows c.in-Ok.ensures.first c.in-Err.ensures.cause

pub returns-in-Ok-finish-clause-added : goal.returns-in-Ok-finish-clause-added
returns-in-Ok-finish-clause-added g c = record {
  chunks = c.in-Ok-feed_left.adding.taken;
  all = c.in-Ok-feed_left.ensures.all;
  can = c.finish.ensures.can;
  frames = c.in-Ok-finish.ensures.told;
  stands = c.in-Ok-finish.ensures.stands;
}
