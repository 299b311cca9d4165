use Rattle.pipe_plan.proofs.AtRow.{arrival-filled, made-filled, made-unfilled, piece-arrives}
use Rattle.pipe_plan.proofs.laws_events.next_event_at_a_row.Goals as goal

pub returns-clause-event : goal.returns-clause-event
returns-clause-event c = λ r w p i taken x spills fills. arrival-filled r w i taken x fills.at p spills.limits.buffer fills.sent fills.full spills.generic

pub returns-clause-piece : goal.returns-clause-piece
returns-clause-piece c = λ r w p i taken x spills fills. piece-arrives r w i taken x fills.at p spills.limits.buffer fills.sent fills.full spills.generic

pub returns-clause-made : goal.returns-clause-made
returns-clause-made c = λ r w p i taken x spills fills. made-filled r w i taken x fills.at p spills.limits.buffer fills.sent fills.full

pub returns-clause-none : goal.returns-clause-none
returns-clause-none c = λ r w p i taken x spills at unfilled. made-unfilled r w i taken x at p spills.limits.buffer unfilled
