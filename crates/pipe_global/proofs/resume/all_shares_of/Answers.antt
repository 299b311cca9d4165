use Rattle.std.proofs.Common.{rules, ◌≡◌, ◌∙◌, ◌+◌, ◌∷◌, ◌++◌, [], List, length, slice_index_or, sum, arith, ap, sym, subst}
use Rattle.pipe_global.specs.Partition.{PartitionSeen}
use Rattle.pipe_global.specs.Resuming.{all_books, AreResumed, books_of, resumed_shares}
use Rattle.pipe_global.specs.Shares.{SharesSeen}
use Rattle.pipe_global.proofs.ResumeFacts.{books-more, resumed-push}
use Rattle.pipe_global.proofs.resume.all_shares_of.Goals as goal

pub loop-count-preserved : goal.loop-count-preserved
loop-count-preserved g c =
    let ps : List PartitionSeen = c.args.partitions.now in
    let i = c.loop-count.count-index in
    let old : List SharesSeen = c.loop-count.shares.items in
    let x : SharesSeen = c.in_ok-shares_of.field-0 in
    let items : c.push.new.self.items ≡ old ++ x ∷ [] = search rules in
    let count : length old ≡ i = search rules in
    let number : c.len-worker.result ≡ i = search rules in
    let own : x ≡ resumed_shares ps i (slice_index_or c.args.picks.now i 0) = subst (λ n. x ≡ resumed_shares ps n (slice_index_or c.args.picks.now i 0)) number c.in_ok-shares_of.ensures.shares in
    let total : c.shares_of.new.book.total ≡ c.loop-count.book.total + sum (books_of ps i) = c.in_ok-shares_of.ensures.total ∙ ap (λ n. c.loop-count.book.total + sum (books_of ps n)) number in (
      omega (arith, c.split_off-event_part.ensures.parts_left, c.loop-count.invariant.0),
      omega (arith, c.split_off-event_part.ensures.amount_left, c.loop-count.invariant.1),
      omega (arith, c.split_off-fault_part.ensures.parts_left, c.loop-count.invariant.2),
      omega (arith, c.split_off-fault_part.ensures.amount_left, c.loop-count.invariant.3),
      search rules,
      omega (arith, total, c.loop-count.invariant.5, books-more ps i),
      subst (λ (l : List SharesSeen). AreResumed ps c.args.picks.now l) (sym items) (resumed-push ps c.args.picks.now old x i count c.loop-count.invariant.6 own),
    )

pub returns-clause-total : goal.returns-clause-total
returns-clause-total g c =
    let all : c.loop-count.count-index ≡ length c.args.picks.now = omega arith in
    c.loop-count.invariant.5 ∙ ap (λ n. c.args.book.now.total + all_books c.args.partitions.now n) all
