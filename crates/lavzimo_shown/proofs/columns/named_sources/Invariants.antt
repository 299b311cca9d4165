use Rattle.std.proofs.Common.{◌≡◌, ◌++◌, drop}
use Rattle.lavzimo_shown.specs.Showing.{named_sources}
use Rattle.lavzimo_shown.proofs.columns.named_sources.Given as goal

-- the columns so far, and those that are left
abbrev pub invariant-loop-i : goal.invariant-loop-i
invariant-loop-i l = l.shown.items ++ named_sources (drop l.i l.columns) (drop l.i l.sources) ≡ named_sources l.columns l.sources
