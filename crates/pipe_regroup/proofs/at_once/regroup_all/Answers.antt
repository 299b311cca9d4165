use Rattle.std.proofs.Common.{◌≡◌, ◌∙◌, ◌≤◌, List, length, take_all}
use Rattle.std.proofs.lemmas.Result.{IfOk-weaker}
use Rattle.pipe_aggs.specs.QueryTrees.{query_tree}
use Rattle.pipe_states.specs.Regrouped.{regrouped}
use Rattle.pipe_states.specs.States.{StateSeen}
use Rattle.pipe_regroup.proofs.at_once.regroup_all.Goals as goal

pub returns-clause-frame : goal.returns-clause-frame
returns-clause-frame c =
    let files : List StateSeen = c.args.files.now in
    let past : length files ≤ c.loop-file.file-index = c.loop-file-test.false in
    let all : c.loop-file.regrouping.files ≡ files = c.loop-file.invariant.files ∙ take_all c.loop-file.file-index files past in
    IfOk-weaker c.finish.result (λ f. f ≡ regrouped (query_tree c.loop-file.regrouping.query) c.loop-file.regrouping.files c.loop-file.regrouping.keep)
    (λ f. f ≡ regrouped (query_tree c.args.query.now) files c.args.keep.now)
    (λ f e. e ∙ (λ i. regrouped (query_tree (c.loop-file.invariant.query i)) (all i) (c.loop-file.invariant.keep i))) c.finish.ensures.frame
