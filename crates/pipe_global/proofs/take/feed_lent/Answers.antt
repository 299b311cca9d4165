use Rattle.std.proofs.lemmas.Result.{on_err_weaker, on_ok_weaker}
use Rattle.pipe_global.proofs.take.feed_lent.Goals as goal

pub returns-clause-ok : goal.returns-clause-ok
returns-clause-ok c = on_ok_weaker c.take_lent.result (λ holds. record { shape = c.take_lent.ensures.shape; holds = holds }) c.take_lent.ensures.ok

pub returns-clause-err : goal.returns-clause-err
returns-clause-err c = on_err_weaker c.take_lent.result (λ held. record { shape = c.take_lent.ensures.shape; held = held }) c.take_lent.ensures.err
