use Rattle.std.proofs.Common.{◌≡◌, ◌∙◌, ◌+◌, ◌<◌, ◌≤◌, ◌++◌, ◌∷◌, [], ℕ, List, ap, arith, length, slice_index_or, sum, sym, take}
use Rattle.std.proofs.lemmas.List.{take_all}
use Rattle.std.proofs.lemmas.List.Sums.{sum_by_push}
use Rattle.pipe_global.specs.Partition.{PartitionSeen}
use Rattle.pipe_global.specs.Resuming.{books_of}
use Rattle.pipe_global.proofs.ResumeFacts.{books-next}
use Rattle.pipe_global.proofs.resume.books_of.Goals as goal

pub book-count-requires : goal.book-count-requires
book-count-requires g c =
    let at : c.loop-partition.partition-index < length c.args.partitions.now = omega arith in
    let taken = c.requires.run c.loop-partition.partition-index c.partition-item.result at in
    let own : length c.partition.inside.contents.book ≡ length c.partition-item.result.book = ap (λ (s : PartitionSeen). length s.book) c.partition.view_is in
    omega (arith, own, ap (λ (s : PartitionSeen). length s.book) c.partition-item.is, taken.replayed.workers, c.requires.exists)

pub loop-partition-preserved : goal.loop-partition-preserved
loop-partition-preserved g c =
    let ps : List PartitionSeen = c.args.partitions.now in
    let w = c.args.worker in
    let i = c.loop-partition.partition-index in
    let item : PartitionSeen = c.partition-item.result in
    let count = c.book-count.result in
    let old : List ℕ = c.loop-partition.events.items in
    let at : i < length ps = omega arith in
    let items : c.push.new.self.items ≡ old ++ count ∷ [] = c.in_ok-push.ensures.items in
    let own : count ≡ slice_index_or item.book w 0 = c.book-count.ensures ∙ ap (λ (s : PartitionSeen). slice_index_or s.book w 0) c.partition.view_is in
    let here : count ≡ slice_index_or (slice_index_or ps i item).book w 0 = own ∙ ap (λ (s : PartitionSeen). slice_index_or s.book w 0) c.partition-item.is in
    let summed : sum c.push.new.self.items ≡ sum old + count = ap (λ (l : List ℕ). sum l) items ∙ sum_by_push (λ (k : ℕ). k) old count in (
      c.add.ensures.parts ∙ c.loop-partition.invariant.0,
      items ∙ ap (λ (l : List ℕ). l ++ count ∷ []) c.loop-partition.invariant.1 ∙ ap (λ n. books_of (take i ps) w ++ n ∷ []) here ∙ sym (books-next ps w i item at),
      omega (arith, c.add.ensures.amount, c.loop-partition.invariant.2, summed),
      omega (arith, c.add.ensures.total, c.loop-partition.invariant.3, summed),
    )

pub returns-clause-events : goal.returns-clause-events
returns-clause-events g c =
    let ended : length c.args.partitions.now ≤ c.loop-partition.partition-index = omega arith in
    c.loop-partition.invariant.1 ∙ ap (λ (l : List PartitionSeen). books_of l c.args.worker) (take_all c.loop-partition.partition-index c.args.partitions.now ended)

pub returns-clause-amount : goal.returns-clause-amount
returns-clause-amount g c =
    let ended : length c.args.partitions.now ≤ c.loop-partition.partition-index = omega arith in
    c.loop-partition.invariant.2 ∙ ap (λ (l : List ℕ). c.args.part.now.amount + sum l)
    (c.loop-partition.invariant.1 ∙ ap (λ (l : List PartitionSeen). books_of l c.args.worker) (take_all c.loop-partition.partition-index c.args.partitions.now ended))

pub returns-clause-total : goal.returns-clause-total
returns-clause-total g c =
    let ended : length c.args.partitions.now ≤ c.loop-partition.partition-index = omega arith in
    c.loop-partition.invariant.3 ∙ ap (λ (l : List ℕ). c.args.book.now.total + sum l)
    (c.loop-partition.invariant.1 ∙ ap (λ (l : List PartitionSeen). books_of l c.args.worker) (take_all c.loop-partition.partition-index c.args.partitions.now ended))
