use Rattle.std.proofs.Common.{◌≡◌, ◌≤◌, count_by, take}
use Rattle.tool_run.specs.MadeLines.{is_arrival}
use Rattle.tool_run.proofs.event_counts.arrivals_of.Given as goal

-- those among the events so far
abbrev pub invariant-loop-event : goal.invariant-loop-event
invariant-loop-event l = (l.count ≡ count_by is_arrival (take l.event-index l.events)) × (l.count ≤ l.event-index)
