use Rattle.std.proofs.Common.{◌≡◌, map, take}
use Rattle.pipe_columns.specs.Frame.{unsorted}
use Rattle.pipe_asked.proofs.stacking.copied.Given as goal

-- the columns so far
abbrev pub invariant-loop-column : goal.invariant-loop-column
invariant-loop-column l = l.columns.items ≡ map unsorted (take l.column-index l.all)
