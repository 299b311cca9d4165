use Rattle.pipe_scan.specs.Stops.{AreMarked}
use Rattle.test_texts_read.proofs.alike.are_rows_alike.Given as goal

abbrev pub invariant-loop : goal.invariant-loop
invariant-loop l = AreMarked l.text l.stops
