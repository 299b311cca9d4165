use Rattle.std.proofs.Common.{◌≡◌, ◌-◌, drop}
use Rattle.pipe_csv.specs.CsvRows.{is_ascending}
use Rattle.pipe_csv.proofs.columns.is_ascending.Given as goal

-- the values from the one before this on tell
abbrev pub invariant-loop-i : goal.invariant-loop-i
invariant-loop-i l = is_ascending l.values ≡ is_ascending (drop (l.i - 1) l.values)
