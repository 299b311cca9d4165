-- The rows that are left are held.
use Rattle.pipe_waiting.specs.Waiting.{HoldRows}
use Rattle.pipe_tables.proofs.ahead.look_lent.Given as goal

abbrev pub invariant-loop-place : goal.invariant-loop-place
invariant-loop-place l = HoldRows l.keyed.shape.input_types l.rows.count l.rows.bytes
