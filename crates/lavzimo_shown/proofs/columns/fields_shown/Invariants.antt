use Rattle.std.proofs.Common.{◌≡◌, ◌++◌, drop}
use Rattle.lavzimo_shown.specs.Showing.{fields_shown}
use Rattle.lavzimo_shown.proofs.columns.fields_shown.Given as goal

-- the columns so far, and those of the fields that are left
abbrev pub invariant-loop-i : goal.invariant-loop-i
invariant-loop-i l = l.shown.items ++ fields_shown l.i (drop l.i l.fields) ≡ fields_shown 0 l.fields
