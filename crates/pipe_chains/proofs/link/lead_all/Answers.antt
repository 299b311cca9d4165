use Rattle.std.proofs.Common.{arith, refl, ◌∙◌}
use Rattle.pipe_chains.proofs.AlongFacts.{no_link}
use Rattle.pipe_chains.proofs.LeadFacts.{leads-next, marks-set}
use Rattle.pipe_chains.proofs.link.lead_all.Goals as goal

pub loop-index-preserved : goal.loop-index-preserved
loop-index-preserved c = (
  marks-set c.loop-index.links c.loop-index.index _ no_link refl ∙ c.loop-index.invariant.0,
  leads-next c.loop-index.links c.loop-index.index _ c.args.leads.now _ (omega arith) (omega arith) (omega arith) c.loop-index.invariant.1 refl,
)
