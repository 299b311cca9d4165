use Rattle.lavzimo_answer.proofs.ReportFacts.{appends-nothing, reports_memory, reports_nothing}
use Rattle.lavzimo_answer.proofs.report.report.Goals as goal

pub returns-then-is_quiet-clause-front : goal.returns-then-is_quiet-clause-front
returns-then-is_quiet-clause-front g c = reports_nothing (g.E.Output.told c.args.messages.now) (appends-nothing (g.E.Output.told c.args.messages.now))

pub returns-then-status-eq-NO_MEMORY-clause-front : goal.returns-then-status-eq-NO_MEMORY-clause-front
returns-then-status-eq-NO_MEMORY-clause-front g c = reports_memory _ _ c.put_line.ensures.front

pub returns-in-Err-clause-front : goal.returns-in-Err-clause-front
returns-in-Err-clause-front g c = reports_nothing (g.E.Output.told c.args.messages.now) (appends-nothing (g.E.Output.told c.args.messages.now))
