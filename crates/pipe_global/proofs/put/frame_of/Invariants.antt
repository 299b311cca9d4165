-- The number, and the bytes so far.
use Rattle.std.proofs.Common.{◌≡◌, ◌++◌, take}
use Rattle.std.specs.Int.{bytes_high_first}
use Rattle.pipe_global.specs.Waits.{bytes_waiting}
use Rattle.pipe_global.proofs.put.frame_of.Given as goal

abbrev pub invariant-loop-rows : goal.invariant-loop-rows
invariant-loop-rows l = l.frame.items ≡ bytes_high_first 8 l.fn.count ++ bytes_waiting (take l.rows-index l.waiting)
