use Rattle.std.proofs.Common.{rules, arith, ◌≡◌, ◌∙◌, ◌<◌, [], ◌∷◌, length, ap}
use Rattle.std.proofs.lemmas.List.{length-map}
use Rattle.std.proofs.lemmas.List.Elements.{All-cons, All-nil}
use Rattle.std.proofs.lemmas.Map.Keys.{IsDistinct-from_apart}
use Rattle.std.specs.Prelude.{nat_eq}
use Rattle.pipe_aggs.specs.QueryTrees.{query_tree}
use Rattle.test_regroup.proofs.regrouped.by_first_key.Goals as goal

pub regroup-requires-clause-kept : goal.regroup-requires-clause-kept
regroup-requires-clause-kept c =
    let n = length (query_tree c.args.query.now).keys in
    let keys : length c.key_types.result.now ≡ n = ap length c.key_types.ensures ∙ length-map _ _ in
    let some : 0 < length c.key_types.result.now = search (rules, arith) in
    record {
      some = omega arith;
      keys = All-cons (λ i. i < n) 0 [] (omega (arith, keys, some)) (All-nil (λ i. i < n));
      distinct = IsDistinct-from_apart nat_eq (0 ∷ []) (λ i j d lt within. absurd (omega (arith, lt, within)));
    }
