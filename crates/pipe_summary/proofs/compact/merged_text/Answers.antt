use Rattle.std.proofs.lemmas.List.Elements.{All-weaker}
use Rattle.pipe_aggs.specs.QueryTrees.{query_tree}
use Rattle.pipe_model.specs.Query.{QueryTree}
use Rattle.pipe_states.specs.Fair.{IsStateOf}
use Rattle.pipe_states.specs.Files.{IsFairStateOf}
use Rattle.pipe_summary.proofs.TurnFacts.{follow-on}
use Rattle.pipe_summary.proofs.compact.merged_text.Goals as goal

pub merge_files-requires-clause-of_query : goal.merge_files-requires-clause-of_query
merge_files-requires-clause-of_query c =
    let q : QueryTree = query_tree c.args.query.now in
    All-weaker (IsFairStateOf q) (IsStateOf q) (λ s f. f.of_query) c.args.files.now c.requires.in_turn.fair

pub merge_files-requires-clause-follow : goal.merge_files-requires-clause-follow
merge_files-requires-clause-follow c = follow-on 0 c.args.files.now c.requires.in_turn.follow
