-- What is counted, and the rows that are left, make up all.
use Rattle.std.proofs.Common.{◌≡◌, ◌+◌, drop}
use Rattle.pipe_global.specs.Waits.{count_waiting}
use Rattle.pipe_global.proofs.put.sizes_of.Given as goal

abbrev pub invariant-loop-rows : goal.invariant-loop-rows
invariant-loop-rows l = l.count + count_waiting (drop l.rows-index l.waiting) ≡ count_waiting l.waiting
