use Rattle.pipe_aggs.proofs.CheckedFacts.{shape_of, sound_of}
use Rattle.pipe_aggs.proofs.GroupableFacts.{groupable_of}
use Rattle.pipe_aggs.proofs.checked_query.CheckedQuery.query.Goals as goal

pub returns-clause-shape : goal.returns-clause-shape
returns-clause-shape c = rw (← c.self.view_is) (shape_of c.self.inside.query.now c.self.invariant.faultless)

pub returns-clause-sound : goal.returns-clause-sound
returns-clause-sound c = rw (← c.self.view_is) (sound_of c.self.inside.query.now c.self.invariant.texts c.self.invariant.faultless)

pub returns-clause-groupable : goal.returns-clause-groupable
returns-clause-groupable c = rw (← c.self.view_is) (groupable_of c.self.inside.query.now (sound_of c.self.inside.query.now c.self.invariant.texts c.self.invariant.faultless))
