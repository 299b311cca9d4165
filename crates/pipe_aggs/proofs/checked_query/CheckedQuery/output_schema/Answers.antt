use Rattle.pipe_aggs.proofs.CheckedFacts.{sound_of}
use Rattle.pipe_aggs.proofs.GroupableFacts.{groupable_of}
use Rattle.pipe_aggs.proofs.checked_query.CheckedQuery.output_schema.Goals as goal

pub returns-clause-groupable : goal.returns-clause-groupable
returns-clause-groupable c = rw (← c.self.view_is) (groupable_of c.self.inside.query.now (sound_of c.self.inside.query.now c.self.invariant.texts c.self.invariant.faultless))
