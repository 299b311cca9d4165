use Rattle.std.proofs.Common.{rules, subst, sym}
use denote.Param.Send.{sendable}
use Rattle.pipe_asked.specs.declared.tasks.FinishTask.{FinishTask}
use Rattle.pipe_asked.specs.Tasks.{CanBeKept}
use Rattle.pipe_asked.proofs.tasks.finish_each.Goals as goal

pub for_each_beside-requires-clause-accepts : goal.for_each_beside-requires-clause-accepts
for_each_beside-requires-clause-accepts g c κs within = λ i p lt is. (
  subst (λ (t : FinishTask g.row.S.Denot g.row.K-Kept.Denot). CanBeKept (g.K.Keep.takes c.args.keep.now) t.partition t.local) (sym is) (c.requires.can i p.now lt),
  search sendable,
)

pub returns-clause-each : goal.returns-clause-each
returns-clause-each g c = λ p d lt. search (rules, c.for_each_beside.ensures p d lt)
