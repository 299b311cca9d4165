use Rattle.std.proofs.Common.{◌≡◌, ◌∙◌, ℕ, List, length, map, ap, sym, subst}
use Rattle.std.specs.List.{All, IsDistinct}
use Rattle.std.proofs.lemmas.List.{length-map}
use Rattle.std.proofs.lemmas.Simd.{map-map}
use Rattle.pipe_columns.specs.declared.place.Place.{Place}
use Rattle.pipe_columns.specs.Slice.{sliced}
use Rattle.pipe_groups.specs.Given.{CanGive, in_order, IsFrameOfGroups}
use Rattle.pipe_groups.specs.Groups.{Group, group_of, group_keys}
use Rattle.pipe_groups.specs.Placed.{groups_by_place, key_places}
use Rattle.pipe_groups.proofs.PlaceOrder.{same_place}
use Rattle.pipe_groups.proofs.SliceFacts.{groups-give}
use Rattle.pipe_groups.proofs.TurnFacts.{key_places-length, key_places-once}
use Rattle.pipe_groups.proofs.groups.Groups.finalize_by_partition.Goals as goal

pub give_by_place-requires-clause-gives : goal.give_by_place-requires-clause-gives
give_by_place-requires-clause-gives c =
    subst (λ (order : List ℕ). All (CanGive c.args.self.now.shape) (map (group_of c.args.self.now.groups) order)) (sym c.deref-2.ensures.value)
    (groups-give c.args.self.now.shape c.args.self.now.groups c.in_ok-order.order.items c.requires.gives c.in_ok-order.ensures.within c.in_ok-order.ensures.rows)

pub give_by_place-requires-clause-count : goal.give_by_place-requires-clause-count
give_by_place-requires-clause-count c =
    let key : ℕ → List ℕ = λ i. (group_of c.args.self.now.groups i).key in
    ap (λ (ps : List Place). length ps) (c.deref-3.ensures.value ∙ c.in_ok-places.ensures ∙ ap (λ (ns : List ℕ). key_places c.args.partitions 0 (map key ns)) c.deref.ensures.value)
    ∙ key_places-length c.args.partitions 0 (map key c.in_ok-order.order.items) ∙ length-map c.in_ok-order.order.items key ∙ ap (λ (ns : List ℕ). length ns) (sym c.deref-2.ensures.value)

pub give_by_place-requires-clause-distinct : goal.give_by_place-requires-clause-distinct
give_by_place-requires-clause-distinct c =
    subst (IsDistinct same_place) (sym (c.deref-3.ensures.value ∙ c.in_ok-places.ensures)) (key_places-once c.args.partitions 0 _)

pub returns-clause-frame : goal.returns-clause-frame
returns-clause-frame c =
    let gs : List Group = c.args.self.now.groups in
    let n : ℕ = c.args.partitions in
    let key : ℕ → List ℕ = λ i. (group_of gs i).key in
    let key_of : Group → List ℕ = λ g. g.key in
    let order = ap (map (group_of gs)) c.deref-2.ensures.value ∙ c.in_ok-order.ensures.order in
    let keys : map key c.in_ok-order.order.items ≡ group_keys (in_order gs) = sym (map-map key_of (group_of gs) c.in_ok-order.order.items) ∙ ap group_keys c.in_ok-order.ensures.order in
    let places = c.deref-3.ensures.value ∙ c.in_ok-places.ensures ∙ ap (λ (ns : List ℕ). key_places n 0 (map key ns)) c.deref.ensures.value ∙ ap (key_places n 0) keys in
    subst (λ (xs : List Group). IsFrameOfGroups c.args.self.now.shape xs c.in_ok-frame.frame)
    (λ i. sliced c.args.slice (groups_by_place (places i) (order i))) c.in_ok-frame.ensures.frame
