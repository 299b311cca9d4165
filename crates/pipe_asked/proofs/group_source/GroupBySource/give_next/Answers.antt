use Rattle.std.proofs.Common.{◌≡◌, ◌+◌, ◌∷◌, arith, false, refl, subst, sym}
use Rattle.pipe_asked.specs.Given.{IsSource}
use Rattle.pipe_asked.specs.Sources.{chunks_left, GroupSourceSeen, HasAllRows, is_over, IsGiveCause, source_query}
use Rattle.pipe_asked.proofs.Asking.{asked-one, cause-one}
use Rattle.pipe_asked.proofs.Sourcing.{next-left, one-left, refused-left, stands-next}
use Rattle.pipe_asked.proofs.group_source.GroupBySource.give_next.Goals as goal

pub returns-in-Err-clause-refused : goal.returns-in-Err-clause-refused
returns-in-Err-clause-refused g c =
    let s : GroupSourceSeen = record { asked = c.self.inside.asked; placed = c.self.inside.placed.items; is_given = c.self.inside.is_given } in
    let new : GroupSourceSeen = record { asked = c.next_chunk.new.self; placed = c.self.inside.placed.items; is_given = c.self.inside.is_given } in
    λ rs. subst (λ (v : GroupSourceSeen). chunks_left rs new ≡ chunks_left rs v) c.self.view_is (refused-left s new rs c.in-Err.ensures.refused c.in-Err.ensures.slice_err refl)

pub returns-in-Err-clause-cause : goal.returns-in-Err-clause-cause
returns-in-Err-clause-cause g c =
    let s : GroupSourceSeen = record { asked = c.self.inside.asked; placed = c.self.inside.placed.items; is_given = c.self.inside.is_given } in
    let left = subst (λ (v : GroupSourceSeen). is_over v ≡ false) (sym c.self.view_is) c.requires.left in
    let order = subst (λ (v : GroupSourceSeen). (source_query v).keeps_order ≡ false) (sym c.self.view_is) c.requires.order in
    let source = subst (λ (v : GroupSourceSeen). IsSource v.asked) (sym c.self.view_is) c.requires.source in
    subst (λ (v : GroupSourceSeen). IsGiveCause v.asked c.next_chunk.new.self c.in-Err.error) c.self.view_is
    (cause-one s.asked c.next_chunk.new.self c.in-Err.error source (one-left s left order source.given) c.in-Err.ensures.refused c.in-Err.ensures.cause)

pub returns-clause-chunk : goal.returns-clause-chunk
returns-clause-chunk g c =
    let s : GroupSourceSeen = record { asked = c.self.inside.asked; placed = c.self.inside.placed.items; is_given = c.self.inside.is_given } in
    let new : GroupSourceSeen = record { asked = c.next_chunk.new.self; placed = c.self.inside.placed.items; is_given = c.self.inside.is_given } in
    let left = subst (λ (v : GroupSourceSeen). is_over v ≡ false) (sym c.self.view_is) c.requires.left in
    let order = subst (λ (v : GroupSourceSeen). (source_query v).keeps_order ≡ false) (sym c.self.view_is) c.requires.order in
    let source = subst (λ (v : GroupSourceSeen). IsSource v.asked) (sym c.self.view_is) c.requires.source in
    λ rs all. subst (λ (v : GroupSourceSeen). chunks_left rs v ≡ c.in-Ok.chunk ∷ chunks_left rs new) c.self.view_is
    (next-left s left order new rs c.in-Ok.chunk (one-left s left order source.given) c.in-Ok.ensures.kept (c.in-Ok.ensures.chunk rs (subst (HasAllRows rs) (sym c.self.view_is) all).rows))

pub returns-clause-stands : goal.returns-clause-stands
returns-clause-stands g c =
    let s : GroupSourceSeen = record { asked = c.self.inside.asked; placed = c.self.inside.placed.items; is_given = c.self.inside.is_given } in
    let new : GroupSourceSeen = record { asked = c.next_chunk.new.self; placed = c.self.inside.placed.items; is_given = c.self.inside.is_given } in
    λ rs all. stands-next s new rs (asked-one s.asked new.asked (s.asked.given + 1) (omega arith) c.in-Ok.ensures.kept) refl (subst (HasAllRows rs) (sym c.self.view_is) all) (c.in-Ok.ensures.stands rs)
