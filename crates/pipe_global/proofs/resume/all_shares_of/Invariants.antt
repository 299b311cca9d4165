use Rattle.std.proofs.Common.{◌≡◌, ◌+◌, length, vec_len}
use Rattle.pipe_global.specs.Resuming.{all_books, AreResumed}
use Rattle.pipe_global.proofs.resume.all_shares_of.Given as goal

-- the shares of the workers so far, whose events are counted
abbrev pub invariant-loop-count : goal.invariant-loop-count
invariant-loop-count g l =
    (l.events.parts + l.count-index ≡ length l.picks)
    × (l.events.amount ≡ 0)
    × (l.faults.parts + l.count-index ≡ length l.picks)
    × (l.faults.amount ≡ 0)
    × (vec_len l.shares ≡ l.count-index)
    × (l.book.total ≡ l.fn.book.total + all_books l.partitions l.count-index)
    × AreResumed l.partitions l.picks l.shares.items
