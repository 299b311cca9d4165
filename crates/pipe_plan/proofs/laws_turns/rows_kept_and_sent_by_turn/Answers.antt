use Rattle.pipe_plan.proofs.Reaching.{kept-until, overflow-until, sent-until}
use Rattle.pipe_plan.proofs.Turning.{sent-all}
use Rattle.pipe_plan.proofs.laws_turns.rows_kept_and_sent_by_turn.Goals as goal

pub returns-clause-kept : goal.returns-clause-kept
returns-clause-kept c = λ r w n. kept-until r n w

pub returns-clause-sent : goal.returns-clause-sent
returns-clause-sent c = λ r w p n. overflow-until r n w p

pub returns-clause-count : goal.returns-clause-count
returns-clause-count c = λ r w p n le. sent-until r n w p le

pub returns-clause-all : goal.returns-clause-all
returns-clause-all c = sent-all
