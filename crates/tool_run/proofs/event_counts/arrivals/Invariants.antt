use Rattle.std.proofs.Common.{◌≡◌, ◌≤◌, ◌*◌, ◌^◌, take}
use Rattle.tool_run.specs.MadeLines.{all_arrivals}
use Rattle.tool_run.proofs.event_counts.arrivals.Given as goal

-- those of the journals so far
abbrev pub invariant-loop-journal : goal.invariant-loop-journal
invariant-loop-journal l = (l.count ≡ all_arrivals (take l.journal-index l.journals)) × (l.count ≤ l.journal-index * 2 ^ 64)
