use Rattle.std.proofs.Common.{rules, ◌≡◌, ◌∙◌, ◌∷◌, arith, false, length, refl, subst, sym, true}
use Rattle.pipe_asked.specs.Sources.{chunks_left, partition_count, GroupSourceSeen, HasAllRows, is_over, source_query}
use Rattle.pipe_asked.proofs.Sourcing.{stands-waiting, waiting-left, whole-frame, whole-left}
use Rattle.pipe_asked.proofs.group_source.GroupBySource.give_all.Goals as goal

pub returns-in-Err-clause-refused : goal.returns-in-Err-clause-refused
returns-in-Err-clause-refused g c =
    let s : GroupSourceSeen = record { asked = c.self.inside.asked; placed = c.self.inside.placed.items; is_given = c.self.inside.is_given } in
    let new : GroupSourceSeen = record { asked = c.ask_rest.new.asked; placed = c.ask_rest.new.placed.items; is_given = c.self.inside.is_given } in
    let order = subst (λ (v : GroupSourceSeen). (source_query v).keeps_order ≡ true) (sym c.self.view_is) c.requires.order in
    λ rs. subst (λ (v : GroupSourceSeen). chunks_left rs new ≡ chunks_left rs v) c.self.view_is (waiting-left s new rs order c.ask_rest.ensures.kept c.ask_rest.ensures.slice refl)

pub returns-in-Err-clause-stands : goal.returns-in-Err-clause-stands
returns-in-Err-clause-stands g c =
    let s : GroupSourceSeen = record { asked = c.self.inside.asked; placed = c.self.inside.placed.items; is_given = c.self.inside.is_given } in
    let new : GroupSourceSeen = record { asked = c.ask_rest.new.asked; placed = c.ask_rest.new.placed.items; is_given = c.self.inside.is_given } in
    λ rs all. stands-waiting s new rs c.ask_rest.ensures.kept (subst (HasAllRows rs) (sym c.self.view_is) all) (c.ask_rest.ensures.stands rs)

pub returns-in_default-clause-refused : goal.returns-in_default-clause-refused
returns-in_default-clause-refused g c =
    let s : GroupSourceSeen = record { asked = c.self.inside.asked; placed = c.self.inside.placed.items; is_given = c.self.inside.is_given } in
    let new : GroupSourceSeen = record { asked = c.ask_rest.new.asked; placed = c.ask_rest.new.placed.items; is_given = c.self.inside.is_given } in
    let order = subst (λ (v : GroupSourceSeen). (source_query v).keeps_order ≡ true) (sym c.self.view_is) c.requires.order in
    λ rs. subst (λ (v : GroupSourceSeen). chunks_left rs new ≡ chunks_left rs v) c.self.view_is (waiting-left s new rs order c.ask_rest.ensures.kept c.ask_rest.ensures.slice refl)

pub returns-in_default-clause-stands : goal.returns-in_default-clause-stands
returns-in_default-clause-stands g c =
    let s : GroupSourceSeen = record { asked = c.self.inside.asked; placed = c.self.inside.placed.items; is_given = c.self.inside.is_given } in
    let new : GroupSourceSeen = record { asked = c.ask_rest.new.asked; placed = c.ask_rest.new.placed.items; is_given = c.self.inside.is_given } in
    λ rs all. stands-waiting s new rs c.ask_rest.ensures.kept (subst (HasAllRows rs) (sym c.self.view_is) all) (c.ask_rest.ensures.stands rs)

pub returns-clause-stands : goal.returns-clause-stands
returns-clause-stands g c =
    let s : GroupSourceSeen = record { asked = c.self.inside.asked; placed = c.self.inside.placed.items; is_given = c.self.inside.is_given } in
    let new : GroupSourceSeen = record { asked = c.ask_rest.new.asked; placed = c.ask_rest.new.placed.items; is_given = true } in
    λ rs all. stands-waiting s new rs c.ask_rest.ensures.kept (subst (HasAllRows rs) (sym c.self.view_is) all) (c.ask_rest.ensures.stands rs)

pub returns-clause-chunk : goal.returns-clause-chunk
returns-clause-chunk g c =
    let s : GroupSourceSeen = record { asked = c.self.inside.asked; placed = c.self.inside.placed.items; is_given = c.self.inside.is_given } in
    let new : GroupSourceSeen = record { asked = c.ask_rest.new.asked; placed = c.ask_rest.new.placed.items; is_given = true } in
    let order = subst (λ (v : GroupSourceSeen). (source_query v).keeps_order ≡ true) (sym c.self.view_is) c.requires.order in
    let left = subst (λ (v : GroupSourceSeen). is_over v ≡ false) (sym c.self.view_is) c.requires.left in
    let given : c.ask_rest.new.asked.given ≡ partition_count s = search rules in
    let count : length new.placed ≡ partition_count s = omega (arith, c.ask_rest.ensures.waiting, given, c.ask_rest.new.placed.ok.0) in
    let query : c.query-query.result.now ≡ s.asked.query = c.query-query.ensures.query ∙ c.ask_rest.ensures.kept.query in
    let slice : c.slice-slice.result ≡ s.asked.slice = c.slice-slice.ensures ∙ c.ask_rest.ensures.slice in
    let parts : c.as_slice-parts.result.now ≡ new.placed = c.as_slice-parts.ensures.value in
    λ rs all.
    let rows = subst (HasAllRows rs) (sym c.self.view_is) all in
    let after = c.ask_rest.ensures.stands rs rows.rows rows.placed in
    subst (λ (v : GroupSourceSeen). chunks_left rs v ≡ record { chunk_index = 1; frame = c.in-Ok-frame_by_place.frame } ∷ chunks_left rs new) c.self.view_is
    (whole-left s left order new rs c.in-Ok-frame_by_place.frame c.ask_rest.ensures.kept.query refl
    (whole-frame s new c.query-query.result.now c.slice-slice.result c.as_slice-parts.result.now rs c.in-Ok-frame_by_place.frame query slice parts count order rows after.1 (c.in-Ok-frame_by_place.ensures.frame rs)))
