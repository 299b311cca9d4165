use Rattle.pipe_tables.proofs.ReserveFacts.{CoversRows}
use Rattle.pipe_tables.proofs.reserve.cover_all.Given as goal

abbrev pub invariant-loop-row : goal.invariant-loop-row
invariant-loop-row l = CoversRows l.rows l.initial.keyed l.keyed l.row-index
