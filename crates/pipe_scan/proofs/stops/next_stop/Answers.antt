use Rattle.std.proofs.Common.{arith}
use Rattle.pipe_scan.proofs.stops.next_stop.Goals as goal

pub returns-in-Some-clause-cursor : goal.returns-in-Some-clause-cursor
returns-in-Some-clause-cursor c = omega (arith, c.in-Some.ensures.cursor, c.in-Some.ensures.seen.1)
