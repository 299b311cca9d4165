use Rattle.pipe_asked.proofs.PieceFacts.{whole-kept}
use Rattle.pipe_asked.proofs.kept.AsWholeKeep.finish.Goals as goal

pub returns-in-Ok-whole : goal.returns-in-Ok-whole
returns-in-Ok-whole g c = record {
  kept = c.finish_pieces.ensures.kept;
  gave = whole-kept (g.F.Form.is c.args.self.now.form.now) c.args.partition.now c.finish_pieces.new.self c.args.local.now c.finish_pieces.new.slice c.in-Ok.pieces c.in-Ok-whole.whole
      c.in-Ok.ensures.pieces c.in-Ok.ensures.partition c.in-Ok.ensures.calm c.in-Ok-whole.ensures;
}
