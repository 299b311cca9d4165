use Rattle.std.proofs.Common.{◌∙◌, ℕ, List, Option, map, ap, sym, subst}
use Rattle.std.specs.List.{All, IsDistinct}
use Rattle.std.proofs.lemmas.Simd.{map-map}
use Rattle.pipe_columns.specs.declared.place.Place.{Place}
use Rattle.pipe_columns.specs.Slice.{sliced}
use Rattle.pipe_groups.specs.Given.{CanGive, IsFrameOfGroups}
use Rattle.pipe_groups.specs.Groups.{Group, group_of}
use Rattle.pipe_groups.specs.Placed.{AreFirsts, groups_by_place}
use Rattle.pipe_groups.proofs.PlaceOrder.{same_place}
use Rattle.pipe_groups.proofs.SliceFacts.{groups-give}
use Rattle.pipe_groups.proofs.groups.Groups.finalize_by_row.Goals as goal

pub give_by_place-requires-clause-gives : goal.give_by_place-requires-clause-gives
give_by_place-requires-clause-gives c =
    subst (λ (order : List ℕ). All (CanGive c.args.self.now.shape) (map (group_of c.args.self.now.groups) order)) (sym c.deref-2.ensures.value)
    (groups-give c.args.self.now.shape c.args.self.now.groups c.in_ok-order.order.items c.requires.gives c.in_ok-order.ensures.within c.in_ok-order.ensures.rows)

pub give_by_place-requires-clause-distinct : goal.give_by_place-requires-clause-distinct
give_by_place-requires-clause-distinct c =
    let gs : List Group = c.args.self.now.groups in
    let first_of : Group → Option Place = λ g. g.first in
    let firsts : AreFirsts gs c.in_ok-firsts.firsts.items =
    c.in_ok-firsts.ensures ∙ ap (map (λ (i : ℕ). (group_of gs i).first)) c.deref.ensures.value
    ∙ sym (map-map first_of (group_of gs) c.in_ok-order.order.items) ∙ ap (map first_of) c.in_ok-order.ensures.order in
    subst (IsDistinct same_place) (sym c.deref-3.ensures.value) (c.requires.firsts c.in_ok-firsts.firsts.items firsts)

pub returns-clause-frame : goal.returns-clause-frame
returns-clause-frame c =
    let gs : List Group = c.args.self.now.groups in
    let first_of : Group → Option Place = λ g. g.first in
    let firsts : AreFirsts gs c.in_ok-firsts.firsts.items =
    c.in_ok-firsts.ensures ∙ ap (map (λ (i : ℕ). (group_of gs i).first)) c.deref.ensures.value
    ∙ sym (map-map first_of (group_of gs) c.in_ok-order.order.items) ∙ ap (map first_of) c.in_ok-order.ensures.order in
    let order = ap (map (group_of gs)) c.deref-2.ensures.value ∙ c.in_ok-order.ensures.order in
    let places = c.deref-3.ensures.value in
    record {
      firsts = c.in_ok-firsts.firsts.items;
      firsts_are = firsts;
      frame_is = subst (λ (xs : List Group). IsFrameOfGroups c.args.self.now.shape xs c.in_ok-frame.frame)
          (λ i. sliced c.args.slice (groups_by_place (places i) (order i))) c.in_ok-frame.ensures.frame;
    }
