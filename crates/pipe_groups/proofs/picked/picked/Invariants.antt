use Rattle.std.proofs.Common.{◌≡◌, map, take}
use Rattle.pipe_groups.specs.PlacedRanks.{picked}
use Rattle.pipe_groups.proofs.picked.picked.Given as goal

-- the columns so far
abbrev pub invariant-loop-column : goal.invariant-loop-column
invariant-loop-column l = l.columns.items ≡ map (picked l.rows) (take l.column-index l.all)
