use Rattle.pipe_plan.proofs.AtEnd.{made-begun, made-turn, pick-next}
use Rattle.pipe_plan.proofs.laws_events.next_event_at_a_pick.Goals as goal

pub returns-clause-begun : goal.returns-clause-begun
returns-clause-begun c = made-begun

pub returns-clause-event : goal.returns-clause-event
returns-clause-event c = λ r w p i e spills lt turn pick here one. pick-next r w p i e spills.generic lt turn pick here one

pub returns-clause-made : goal.returns-clause-made
returns-clause-made c = made-turn
