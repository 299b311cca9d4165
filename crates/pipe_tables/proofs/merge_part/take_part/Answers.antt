use Rattle.std.proofs.Common.{◌∙◌, sym}
use Rattle.pipe_tables.proofs.PartFacts.{part-falls, part-joined, part-link, part-may, part-next, part-none, part-rest, part-room, part-start, part-within}
use Rattle.pipe_tables.proofs.merge_part.take_part.Goals as goal
use Rattle.pipe_tables.proofs.merge_part.take_part.Goals.{then-has_rows, else-has_rows}

pub loop-at-init : goal.loop-at-init
loop-at-init c = part-start _ _ _ _ _ c.requires.may c.requires.parts _ c.last-at.ensures c.requires.room

pub has_rows-requires : goal.has_rows-requires
has_rows-requires c = part-within _ _ _ _ _ c.requires.may c.requires.parts _ _ _ (rw c.in-Some.is at c.loop-at.invariant)

pub take-requires-clause-room : goal.take-requires-clause-room
take-requires-clause-room c = part-room _ _ _ _ _ c.requires.may c.requires.parts _ _ _ (rw c.in-Some.is at c.loop-at.invariant) (sym c.has_rows.ensures ∙ c.if-has_rows.true)

pub take-requires-clause-joinable : goal.take-requires-clause-joinable
take-requires-clause-joinable c = part-may _ _ _ _ _ c.requires.may c.requires.parts _ _ _ (rw c.in-Some.is at c.loop-at.invariant) (sym c.has_rows.ensures ∙ c.if-has_rows.true)

pub before-at-requires : goal.before-at-requires
before-at-requires c = part-link _ _ _ _ _ c.requires.may c.requires.parts _ _ _ (rw c.in-Some.is at c.loop-at.invariant)

pub loop-at-smaller : goal.loop-at-smaller
loop-at-smaller c = rw c.in-Some.is (part-falls _ _ _ _ _ c.requires.may c.requires.parts _ _ _ (rw c.in-Some.is at c.loop-at.invariant) _ c.before-at.ensures)

pub loop-at-preserved : goal.loop-at-preserved
loop-at-preserved c = elim c.if-has_rows.branch [
  | then-has_rows w ↦ rw (w.own-is, w.other-is) (part-next _ _ _ _ _ c.requires.may c.requires.parts _ _ _ (rw c.in-Some.is at c.loop-at.invariant) (sym c.has_rows.ensures ∙ w.if-has_rows.true) _ _ _ w.take.ensures.taken w.take.ensures.shape w.take.ensures.left w.take.ensures.room c.before-at.ensures)
  | else-has_rows w ↦ rw (w.own-is, w.other-is) (part-none _ _ _ _ _ c.requires.may c.requires.parts _ _ _ (rw c.in-Some.is at c.loop-at.invariant) _ (sym c.has_rows.ensures ∙ w.if-has_rows.false) c.before-at.ensures)
]

pub returns-clause-joined : goal.returns-clause-joined
returns-clause-joined c = part-joined _ _ _ _ _ c.requires.may c.requires.parts _ _ (rw c.in_default.is at c.loop-at.invariant)

pub returns-clause-rest : goal.returns-clause-rest
returns-clause-rest c = part-rest _ _ _ _ _ c.requires.may c.requires.parts _ _ (rw c.in_default.is at c.loop-at.invariant)
