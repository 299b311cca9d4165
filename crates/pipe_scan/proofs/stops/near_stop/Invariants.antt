use Rattle.pipe_scan.specs.NextStop.{HasNone}
use Rattle.pipe_scan.specs.Stops.{is_stop}
use Rattle.pipe_scan.proofs.stops.near_stop.Given as goal

abbrev pub invariant-loop-i : goal.invariant-loop-i
invariant-loop-i l = HasNone is_stop l.text l.at l.i
