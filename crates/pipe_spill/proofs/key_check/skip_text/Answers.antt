-- The escaped form before the end is in UTF-8, or it isn't.
use Rattle.std.proofs.Common.{◌+◌}
use Rattle.std.proofs.lemmas.List.{take_rest}
use Rattle.pipe_spill.proofs.TextEnd.{no_utf8, text_skipped}
use Rattle.pipe_spill.proofs.key_check.skip_text.Goals as goal

pub returns-in-Ok-clause-some : goal.returns-in-Ok-clause-some
returns-in-Ok-clause-some c =
    rw (take_rest c.args.body.now (c.in_ok-end.end + 2))
    (text_skipped c.args.body.now c.in_ok-end.end c.in_ok-end.ensures.text c.in-Ok.ensures.cases.1)

pub returns-in-Err-clause-none : goal.returns-in-Err-clause-none
returns-in-Err-clause-none c = λ h.
    no_utf8 c.args.body.now c.in_ok-end.end c.in_ok-end.ensures.text c.in-Err.ensures.cases.0
