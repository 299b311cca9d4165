use Rattle.std.proofs.Common.{rules, arith, ◌≡◌, ◌∙◌, ◌≤◌, ◌==◌, true, false, zero, suc, ◌++◌, ◌∷◌, ℕ, [], List, length, sym, ap, subst}
use Rattle.std.specs.List.{range_with_len}
use Rattle.std.proofs.lemmas.List.{length-map}
use Rattle.pipe_aggs.specs.QueryTrees.{query_tree}
use Rattle.pipe_model.specs.Query.{QueryTree}
use Rattle.pipe_states.specs.Together.{AreKept}
use Rattle.pipe_summary.proofs.SummedFacts.{all-kept, range-push}
use Rattle.pipe_summary.proofs.answer.all_keys.Goals as goal

-- a number that isn't 0
some-of : (n : ℕ) → (n == 0) ≡ false → 1 ≤ n
some-of zero e = let no : true ≡ false = e in absurd (cc)
some-of (suc n) e = omega arith

pub loop-index-preserved : goal.loop-index-preserved
loop-index-preserved c = c.in_ok-push.ensures.items ∙ ap (λ (l : List ℕ). l ++ c.loop-index.index ∷ []) c.loop-index.invariant ∙ range-push 0 c.loop-index.index c.loop-index.index (omega arith)

pub returns-clause-kept : goal.returns-clause-kept
returns-clause-kept c =
    let q : QueryTree = query_tree c.args.query.now in
    let same : c.query.result.now ≡ c.args.query.now = c.query.ensures.query in
    let count : c.len-count.result ≡ length q.keys = search (rules, length-map) in
    let all : c.loop-index.index ≡ length q.keys = search (rules, count) in
    let long : length q.keys ≡ length c.args.query.now.keys.items = length-map c.args.query.now.keys.items _ in
    let some : 1 ≤ length q.keys = let n = some-of (length c.args.query.now.keys.items) c.query.ensures.shape.keyed in omega (arith, n, long) in
    subst (AreKept q) (sym (c.loop-index.invariant ∙ ap (range_with_len 0) all)) (all-kept q some)
