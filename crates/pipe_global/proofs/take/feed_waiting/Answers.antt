use Rattle.std.proofs.lemmas.Result.{on_err_weaker, on_ok_weaker}
use Rattle.pipe_global.proofs.take.feed_waiting.Goals as goal

pub returns-clause-ok : goal.returns-clause-ok
returns-clause-ok c = on_ok_weaker c.take_waiting.result (λ holds. record { shape = c.take_waiting.ensures.shape; holds = holds }) c.take_waiting.ensures.ok

pub returns-clause-err : goal.returns-clause-err
returns-clause-err c = on_err_weaker c.take_waiting.result (λ held. record { shape = c.take_waiting.ensures.shape; held = held }) c.take_waiting.ensures.err
