use Rattle.std.proofs.Common.{rules}
use Rattle.std.proofs.lemmas.List.Sorted.{answers_always}
use Rattle.pipe_writers.proofs.SortFacts.{sorted-by_number}
use Rattle.pipe_writers.proofs.chunk_order.sort_by_number.Goals as goal

pub returns-clause-ok : goal.returns-clause-ok
returns-clause-ok c =
    let sort = c.in_ok-sort_by_key.ensures in
    sorted-by_number _ _ (sort.sorted (λ x. x.chunk_index) (answers_always _ _ _ (λ f a r g h. search rules))) (sort.stable (λ x. x.chunk_index) (answers_always _ _ _ (λ f a r g h. search rules)))
