use Rattle.std.proofs.Common.{◌≡◌, ◌+◌, take, sum}
use Rattle.pipe_global.specs.Resuming.{books_of}
use Rattle.pipe_global.proofs.resume.books_of.Given as goal

-- the worker's events in the partitions so far, which are counted
abbrev pub invariant-loop-partition : goal.invariant-loop-partition
invariant-loop-partition g l =
    (l.part.parts ≡ 1)
    × (l.events.items ≡ books_of (take l.partition-index l.partitions) l.worker)
    × (l.part.amount ≡ l.fn.part.amount + sum l.events.items)
    × (l.book.total ≡ l.fn.book.total + sum l.events.items)
