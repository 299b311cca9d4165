use Rattle.std.proofs.Common.{rules, arith, ◌≡◌, ◌∙◌, ◌<◌, ◌++◌, ◌∷◌, ℕ, [], List, length, All, sym, ap, subst}
use Rattle.std.specs.List.{range_with_len}
use Rattle.std.proofs.lemmas.List.{length-map}
use Rattle.pipe_aggs.specs.QueryTrees.{query_tree}
use Rattle.pipe_model.specs.Expr.{Expr}
use Rattle.pipe_model.specs.Query.{QueryTree}
use Rattle.pipe_model.specs.Typing.{known_type}
use Rattle.pipe_regroup.proofs.KeptFacts.{range-below, range-push}
use Rattle.pipe_regroup.proofs.merge.groups_by_all.Goals as goal

pub loop-index-preserved : goal.loop-index-preserved
loop-index-preserved c = c.in_ok-push.ensures.items ∙ ap (λ (l : List ℕ). l ++ c.loop-index.index ∷ []) c.loop-index.invariant ∙ range-push 0 c.loop-index.index c.loop-index.index (omega arith)

pub groups_by-requires : goal.groups_by-requires
groups_by-requires c =
    let q : QueryTree = query_tree c.args.query.now in
    let n = length q.keys in
    let types = ap length c.key_types-count.ensures ∙ length-map q.keys (λ (e : Expr). known_type e q.schema) in
    let all : c.loop-index.index ≡ n = search (rules, types) in
    subst (λ (l : List ℕ). All (λ i. i < n) l) (sym (c.deref.ensures.value ∙ c.loop-index.invariant))
    (subst (λ (m : ℕ). All (λ i. i < n) (range_with_len 0 m)) (sym all) (range-below 0 n n (omega arith)))
