use Rattle.std.proofs.Common.{take}
use Rattle.std.specs.List.{All}
use Rattle.pipe_kinds.proofs.RowFacts.{KeepsNone}
use Rattle.pipe_kinds.proofs.columns.one_keeps_values.Given as goal

-- none of the columns so far
abbrev pub invariant-loop-j : goal.invariant-loop-j
invariant-loop-j l = All KeepsNone (take l.j l.columns)
