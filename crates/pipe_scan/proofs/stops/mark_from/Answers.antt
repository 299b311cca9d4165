use Rattle.std.proofs.Common.{◌≤◌, ◌+◌, length, arith}
use Rattle.pipe_scan.proofs.StopFacts.{from-marked}
use Rattle.pipe_scan.proofs.stops.mark_from.Goals as goal

pub returns-then-others-clause-marked : goal.returns-then-others-clause-marked
returns-then-others-clause-marked c =
    let w : c.args.stops.now.cursor + 64 ≤ length c.args.text.now = omega (arith, c.if-text-at-lt-TOGETHER.false, c.requires.within) in
    rw c.stops_from.ensures (record { within = omega (arith, w); stops = (from-marked c.args.text.now c.args.stops.now.cursor w).stops; others = record { count = 64; within = w; few = omega arith; are = c.others_at-stops.ensures } })

pub returns-else-others-clause-marked : goal.returns-else-others-clause-marked
returns-else-others-clause-marked c = rw c.stops_from.ensures (from-marked c.args.text.now c.args.stops.now.cursor (omega (arith, c.if-text-at-lt-TOGETHER.false, c.requires.within)))
