use Rattle.std.proofs.Common.{◌≡◌, map}
use Rattle.std.proofs.lemmas.Result.{IfOk-weaker}
use Rattle.pipe_aggs.specs.QueryTrees.{query_tree}
use Rattle.pipe_model.specs.Answer.{answer}
use Rattle.pipe_sinks.specs.Runs.{IsAnswer, purpose_of}
use Rattle.pipe_group_by.proofs.Combining.{combined-answer}
use Rattle.pipe_group_by.proofs.combined.groups_of.Goals as goal

pub returns : goal.returns
returns c =
    IfOk-weaker c.finish-frame.result (λ f. IsAnswer (purpose_of c.in_ok-all.all) c.in_ok-all.all.taken f) (λ f. f ≡ answer (map (λ m. m.value) c.args.chunks.now) (query_tree c.args.query.now) c.args.partitions)
    (λ f given. combined-answer c.args.query.now c.args.partitions _ (map (λ m. m.value) c.args.chunks.now) c.in_ok-all.all f c.requires.some c.in_ok-all.ensures given) c.finish-frame.ensures.answer
