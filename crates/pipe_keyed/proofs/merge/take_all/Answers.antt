use Rattle.std.proofs.Common.{arith, sym, ◌∙◌}
use Rattle.pipe_keyed.proofs.AllFacts.{takes-end, takes-may, takes-next, takes-none, takes-room, takes-start}
use Rattle.pipe_keyed.proofs.merge.take_all.Goals as goal
use Rattle.pipe_keyed.proofs.merge.take_all.Goals.{then-has_rows, else-has_rows}

pub loop-from-init : goal.loop-from-init
loop-from-init g c = takes-start _ _ c.requires.may c.requires.room

pub take-requires-clause-room : goal.take-requires-clause-room
take-requires-clause-room g c = takes-room _ _ c.requires.may _ _ _ c.loop-from.invariant (omega arith) (sym c.has_rows.ensures ∙ c.if-has_rows.true)

pub take-requires-clause-joinable : goal.take-requires-clause-joinable
take-requires-clause-joinable g c = takes-may _ _ c.requires.may _ _ _ c.loop-from.invariant (omega arith) (sym c.has_rows.ensures ∙ c.if-has_rows.true)

pub loop-from-preserved : goal.loop-from-preserved
loop-from-preserved g c = elim c.if-has_rows.branch [
  | then-has_rows w ↦ rw (w.own-is, w.other-is) (takes-next _ _ c.requires.may _ _ _ c.loop-from.invariant (omega arith) (sym c.has_rows.ensures ∙ w.if-has_rows.true) _ _ w.take.ensures.taken w.take.ensures.shape w.take.ensures.left w.take.ensures.room)
  | else-has_rows w ↦ rw (w.own-is, w.other-is) (takes-none _ _ c.requires.may _ _ _ c.loop-from.invariant (sym c.has_rows.ensures ∙ w.if-has_rows.false))
]

pub returns-clause-joined : goal.returns-clause-joined
returns-clause-joined g c = takes-end _ _ c.requires.may _ _ _ c.loop-from.invariant (omega arith)
