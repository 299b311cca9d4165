use Rattle.pipe_asked.proofs.Asking.{cause-one}
use Rattle.pipe_asked.proofs.InTurn.{given-whole}
use Rattle.pipe_asked.proofs.in_turn.next_whole.Goals as goal

pub returns-in-Err-clause-cause : goal.returns-in-Err-clause-cause
returns-in-Err-clause-cause g c =
    cause-one c.args.asked.now c.next_pieces.new.self c.in-Err.error c.requires.source c.requires.left c.in-Err.ensures.refused c.in-Err.ensures.cause

pub returns-in-Ok-whole-clause-whole : goal.returns-in-Ok-whole-clause-whole
returns-in-Ok-whole-clause-whole g c =
    given-whole (g.F.Form.is c.args.form.now) c.args.asked.now c.next_pieces.new.self c.in-Ok.pieces c.in-Ok-whole.whole c.in-Ok.ensures.pieces c.in-Ok-whole.ensures
