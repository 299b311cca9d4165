use Rattle.std.proofs.Common.{◌∙◌, ◌∷◌, ◌++◌, [], List, ℕ, ap, refl, arith}
use Rattle.pipe_tables.proofs.FoundFacts.{finds-none, found-all, found-covered, next-covered, next-found, found-same, same-types}
use Rattle.pipe_tables.proofs.find_waiting.find_rows.Goals as goal

pub loop-row-init : goal.loop-row-init
loop-row-init c = finds-none _ _ _ _ c.requires.held

pub next_key-requires-clause-held : goal.next_key-requires-clause-held
next_key-requires-clause-held c = rw (same-types _ _ _ _ c.input_types.ensures c.groups.ensures.shape c.loop-row.invariant.groups.1) c.loop-row.invariant.held

pub next_key-requires-clause-plain : goal.next_key-requires-clause-plain
next_key-requires-clause-plain c = rw (same-types _ _ _ _ c.input_types.ensures c.groups.ensures.shape c.loop-row.invariant.groups.1) c.requires.plain

pub look_at_lent-requires-clause-held : goal.look_at_lent-requires-clause-held
look_at_lent-requires-clause-held c = rw (c.input_types.ensures, c.groups.ensures.shape) at c.in-Some.ensures.some.next.left

pub look_at_lent-requires-clause-plain : goal.look_at_lent-requires-clause-plain
look_at_lent-requires-clause-plain c = rw c.loop-row.invariant.groups.1 c.requires.plain

pub loop-row-smaller : goal.loop-row-smaller
loop-row-smaller c = omega (arith, c.in-Some.ensures.some.next.count)

pub loop-row-preserved : goal.loop-row-preserved
loop-row-preserved c = next-found _ _ _ _ _ _ _ _ _ c.loop-row.invariant (rw (same-types _ _ _ _ c.input_types.ensures c.groups.ensures.shape c.loop-row.invariant.groups.1) at c.in-Some.ensures.some.next) _
    c.in_ok-index.ensures.ok _ c.in_ok-index.ensures.at _
    (c.in_ok-push_spot.ensures ∙ ap (λ (spots : List ℕ). spots ++ c.in_ok-index.index ∷ []) c.look_at_lent.ensures)

pub returns-in_err-push_spot-clause-covered : goal.returns-in_err-push_spot-clause-covered
returns-in_err-push_spot-clause-covered c = next-covered _ _ _ _ _ _ _ _ _ c.loop-row.invariant
    (rw (same-types _ _ _ _ c.input_types.ensures c.groups.ensures.shape c.loop-row.invariant.groups.1) at c.in-Some.ensures.some.next) _ c.in_ok-index.ensures.ok

pub returns-in_err-index-clause-covered : goal.returns-in_err-index-clause-covered
returns-in_err-index-clause-covered c = found-same _ _ _ _ _ _ _ _ c.loop-row.invariant c.in_err-index.ensures.err

pub returns-clause-covered : goal.returns-clause-covered
returns-clause-covered c = found-covered _ _ _ _ _ _ _ c.loop-row.invariant

pub returns-clause-at : goal.returns-clause-at
returns-clause-at c = found-all _ _ _ _ _ _ _ c.loop-row.invariant (c.in_default.ensures.none refl)
