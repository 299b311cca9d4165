use Rattle.std.proofs.Common.{◌≡◌, drop}
use Rattle.pipe_model.specs.Answer.{tuple_cmp}
use Rattle.pipe_inputs.specs.Cells.{cells}
use Rattle.pipe_inputs.proofs.cells.compare_cells.Given as goal

-- the values so far are equal, so what is left decides
abbrev pub invariant-loop-i : goal.invariant-loop-i
invariant-loop-i l = tuple_cmp (cells l.lists l.row) l.other ≡ tuple_cmp (cells (drop l.i l.lists) l.row) (drop l.i l.other)
