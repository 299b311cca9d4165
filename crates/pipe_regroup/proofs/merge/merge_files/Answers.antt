use Rattle.std.proofs.Common.{rules, ◌≡◌, ◌∙◌, ◌<◌, ◌^◌, List, sym, subst}
use Rattle.pipe_aggs.specs.QueryTrees.{query_tree}
use Rattle.pipe_model.specs.Query.{QueryTree}
use Rattle.pipe_states.specs.Fair.{IsFair}
use Rattle.pipe_states.specs.Files.{IsFairStateOf}
use Rattle.pipe_states.specs.Regrouped.{merged_states}
use Rattle.pipe_states.specs.States.{StateSeen}
use Rattle.pipe_states.specs.Together.{total_rows}
use Rattle.pipe_regroup.proofs.QueryGroups.{merged-are, merged-one}
use Rattle.pipe_regroup.proofs.merge.merge_files.Goals as goal

pub new-requires : goal.new-requires
new-requires c =
    let q : QueryTree = query_tree c.args.query.now in
    let states : List StateSeen = c.args.files.now in
    let few : total_rows states < 2 ^ 32 = search rules in
    subst IsFair
    (merged-are q states c.requires.some c.index-files-0.result c.index-files-files.result c.first-first.result c.end-end.result c.in_ok-rows.rows.items
    c.index-files-0.is c.index-files-files.is c.first-first.ensures.first c.end-end.ensures.end c.in_ok-rows.ensures)
    (merged-one q states c.requires.some c.total.ensures.fair c.requires.of_query c.requires.follow few).fair

pub returns-clause-merged : goal.returns-clause-merged
returns-clause-merged c =
    c.new.ensures
    ∙ sym (merged-are (query_tree c.args.query.now) c.args.files.now c.requires.some c.index-files-0.result c.index-files-files.result c.first-first.result c.end-end.result c.in_ok-rows.rows.items
    c.index-files-0.is c.index-files-files.is c.first-first.ensures.first c.end-end.ensures.end c.in_ok-rows.ensures)

pub returns-clause-of_query : goal.returns-clause-of_query
returns-clause-of_query c =
    let q : QueryTree = query_tree c.args.query.now in
    let states : List StateSeen = c.args.files.now in
    let few : total_rows states < 2 ^ 32 = search rules in
    let merged : merged_states q states ≡ c.new.result =
    merged-are q states c.requires.some c.index-files-0.result c.index-files-files.result c.first-first.result c.end-end.result c.in_ok-rows.rows.items
    c.index-files-0.is c.index-files-files.is c.first-first.ensures.first c.end-end.ensures.end c.in_ok-rows.ensures
    ∙ sym c.new.ensures in
    subst (IsFairStateOf q) merged (merged-one q states c.requires.some c.total.ensures.fair c.requires.of_query c.requires.follow few)
