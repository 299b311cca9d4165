use Rattle.std.proofs.Common.{◌≡◌, take}
use Rattle.pipe_tables.proofs.ReserveFacts.{bytes_of}
use Rattle.pipe_tables.proofs.reserve.key_bytes_of.Given as goal

abbrev pub invariant-loop-row : goal.invariant-loop-row
invariant-loop-row l = l.bytes ≡ bytes_of (take l.row-index l.rows)
