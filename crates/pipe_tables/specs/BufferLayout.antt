-- Of the proofs alone: how buffers lie in memory.
use Rattle.std.specs.Prelude.{List, map, Vec}
use Rattle.std.specs.declared.alloc.Global.{Global}
use Rattle.pipe_spill.specs.declared.spill_row.SpillRow.{SpillRow}

-- the rows of vectors
abbrev pub rows_of : List (Vec SpillRow Global) → List (List SpillRow)
rows_of buffers = map (λ b. b.items) buffers
