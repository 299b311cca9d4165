use Rattle.std.proofs.Common.{rules}
use Rattle.std.proofs.lemmas.List.Sorted.{answers_always}
use Rattle.test_plain.proofs.order.by_first_row.Goals as goal

pub returns : goal.returns
returns c = record {
  moved = c.in_ok-sort_by_key.ensures.permutation;
  sorted = c.in_ok-sort_by_key.ensures.sorted (λ g. g.first) (answers_always _ _ _ (λ f a r g h. search rules));
  stable = c.in_ok-sort_by_key.ensures.stable (λ g. g.first) (answers_always _ _ _ (λ f a r g h. search rules));
}
