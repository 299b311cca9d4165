use Rattle.std.proofs.Common.{◌≡◌, ◌<◌, length}
use Rattle.pipe_columns.specs.Key.{code}
use Rattle.pipe_inputs.specs.ChunkRows.{row_at}
use Rattle.pipe_workers.specs.Steps.{IsInTurn, taken_with}
use Rattle.pipe_workers.proofs.turn.take_all.Given as goal

-- the rows before this one are taken, and the code of its key is written, if there is one
abbrev pub invariant-loop-row : goal.invariant-loop-row
invariant-loop-row g l = record {
  taken : IsInTurn g.R.Naming.run l.fn.shares.worker l.turn.position
      (taken_with g.R.Naming.run l.fn.shares.worker l.turn.position l.turn.rows l.row)
      l.table l.shares;
  written : l.row < length l.turn.rows → l.next.items ≡ code l.types (row_at l.turn.rows l.row).key;
}
