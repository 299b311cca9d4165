use Rattle.pipe_aggs.specs.QueryTrees.{query_tree}
use Rattle.rollup_words.proofs.AskedFacts.{kept_can}
use Rattle.rollup_words.proofs.question.read_roll.Goals as goal

pub returns-in-Ok-clause-kept : goal.returns-in-Ok-clause-kept
returns-in-Ok-clause-kept c = kept_can (query_tree c.in_ok-query.query) c.args.keys.now c.in_ok-keep.keep.items c.in_ok-keep.ensures.kept
