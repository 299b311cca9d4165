use Rattle.std.proofs.Common.{◌≡◌, ◌∙◌, ◌+◌, List, length, arith, ap, sym, subst}
use Rattle.pipe_global.specs.Closed.{all_events}
use Rattle.pipe_global.specs.Partition.{PartitionSeen}
use Rattle.pipe_global.specs.Resuming.{all_books, AreResumed}
use Rattle.pipe_global.proofs.ResumeFacts.{books-are-events}
use Rattle.pipe_global.proofs.global_table.GlobalTable.resume.Goals as goal

pub of-requires-clause-events : goal.of-requires-clause-events
of-requires-clause-events g c =
    let r = g.R.Naming.run in
    let ps : List PartitionSeen = c.args.partitions.items in
    let start = c.open-books.result.0.workers.total in
    let workers = length c.args.picks.now in
    let seen : List PartitionSeen = c.deref.result.now in
    let counted : c.memory_for.new.book.total ≡ start + all_books seen workers = c.in-Ok.ensures.total in
    let lent : all_books seen workers ≡ all_books ps workers = ap (λ (l : List PartitionSeen). all_books l workers) c.deref.ensures.value in
    let all : all_books ps workers ≡ all_books ps r.limits.workers = ap (λ n. all_books ps n) (sym c.requires.numbers.0) in
    let same : all_books ps r.limits.workers ≡ all_events ps = books-are-events r ps c.requires.taken in
    omega (arith, c.locks_of-partitions.ensures.total, c.open-books.ensures.events.0, c.open-books.ensures.events.1, counted, lent, all, same)

pub invariant_of-table : goal.invariant_of-table
invariant_of-table g c = (c.locks_of-partitions.ensures.len ∙ c.requires.count, c.requires.run.limits.partitions)

pub returns-clause-shares : goal.returns-clause-shares
returns-clause-shares g c = subst (λ (l : List PartitionSeen). AreResumed l c.args.picks.now c.in-Ok.shares.items) c.deref.ensures.value c.in-Ok.ensures.shares
