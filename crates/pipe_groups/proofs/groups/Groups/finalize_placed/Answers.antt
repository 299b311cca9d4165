use Rattle.std.proofs.Common.{◌∙◌, ℕ, List, Option, Some, map, ap, sym, subst}
use Rattle.std.specs.List.{All}
use Rattle.std.proofs.lemmas.Simd.{map-map}
use Rattle.pipe_columns.specs.declared.place.Place.{Place}
use Rattle.pipe_groups.specs.Given.{CanGive}
use Rattle.pipe_groups.specs.Groups.{Group, group_of}
use Rattle.pipe_groups.proofs.SliceFacts.{groups-give}
use Rattle.pipe_groups.proofs.groups.Groups.finalize_placed.Goals as goal

pub give-requires-clause-gives : goal.give-requires-clause-gives
give-requires-clause-gives c =
    subst (λ (order : List ℕ). All (CanGive c.args.self.now.shape) (map (group_of c.args.self.now.groups) order)) (sym c.deref-2.ensures.value)
    (groups-give c.args.self.now.shape c.args.self.now.groups c.in_ok-order.order.items c.requires.gives c.in_ok-order.ensures.within c.in_ok-order.ensures.rows)

pub returns-clause-firsts : goal.returns-clause-firsts
returns-clause-firsts c =
    let gs : List Group = c.args.self.now.groups in
    let first_of : Group → Option Place = λ g. g.first in
    ap (map (λ (p : Place). Some p)) c.new-firsts.ensures ∙ c.in_ok-firsts.ensures ∙ ap (map (λ (i : ℕ). (group_of gs i).first)) c.deref.ensures.value
    ∙ sym (map-map first_of (group_of gs) c.in_ok-order.order.items) ∙ ap (map first_of) c.in_ok-order.ensures.order
