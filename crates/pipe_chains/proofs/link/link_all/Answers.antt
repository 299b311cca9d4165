use Rattle.std.proofs.Common.{arith, ◌∙◌, rules}
use Rattle.pipe_chains.proofs.LeadFacts.{linked-next}
use Rattle.pipe_chains.proofs.link.link_all.Goals as goal

pub loop-index-preserved : goal.loop-index-preserved
loop-index-preserved c = (
  linked-next _ _ _ c.loop-index.index c.loop-index.invariant.0 _ _ c.link_to.result _ (omega arith) (omega arith) c.link_to.ensures.mark c.link_to.ensures.lead (search rules),
  c.link_to.ensures.kept ∙ c.loop-index.invariant.1,
)
