use Rattle.std.proofs.Common.{◌≡◌, take}
use Rattle.pipe_inputs.specs.Cells.{cells}
use Rattle.pipe_inputs.proofs.cells.own_cells.Given as goal

-- the values so far
abbrev pub invariant-loop-values : goal.invariant-loop-values
invariant-loop-values l = l.own.items ≡ cells (take l.values-index l.lists) l.row
