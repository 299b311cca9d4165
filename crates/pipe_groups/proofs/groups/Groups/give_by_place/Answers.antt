use Rattle.std.proofs.Common.{◌∙◌, ◌<◌, ℕ, List, length, map, nat_eq, ap, sym, subst}
use Rattle.std.specs.List.{All, IsDistinct}
use Rattle.std.proofs.lemmas.Cmp.{nat_eq_equiv}
use Rattle.std.proofs.lemmas.List.Sorted.{All-permutation, IsPermutation-map}
use Rattle.std.proofs.lemmas.Map.Keys.{IsDistinct-IsPermutation}
use Rattle.pipe_columns.specs.Slice.{sliced}
use Rattle.pipe_groups.specs.Given.{CanGive, IsFrameOfGroups}
use Rattle.pipe_groups.specs.Groups.{Group, group_of}
use Rattle.pipe_groups.proofs.SliceFacts.{sliced-apart, sliced-holds, sliced-map}
use Rattle.pipe_groups.proofs.TurnFacts.{groups-turned}
use Rattle.pipe_groups.proofs.groups.Groups.give_by_place.Goals as goal

pub give-requires-clause-within : goal.give-requires-clause-within
give-requires-clause-within c =
    let P : ℕ → Type 0 = λ i. i < length c.args.self.now.groups in
    subst (All P) (sym (c.taken_by.ensures ∙ ap (sliced c.args.slice) c.deref.ensures.value))
    (sliced-holds P c.args.slice c.in_ok-turns.turns.items (All-permutation P c.args.order.now c.in_ok-turns.turns.items c.in_ok-turns.ensures.moved c.requires.within))

pub give-requires-clause-once : goal.give-requires-clause-once
give-requires-clause-once c =
    subst (IsDistinct nat_eq) (sym (c.taken_by.ensures ∙ ap (sliced c.args.slice) c.deref.ensures.value))
    (sliced-apart nat_eq c.args.slice c.in_ok-turns.turns.items (IsDistinct-IsPermutation nat_eq nat_eq_equiv.symm c.args.order.now c.in_ok-turns.turns.items c.in_ok-turns.ensures.moved c.requires.once))

pub give-requires-clause-gives : goal.give-requires-clause-gives
give-requires-clause-gives c =
    let gs : List Group = c.args.self.now.groups in
    let turns : List ℕ = c.in_ok-turns.turns.items in
    let P : Group → Type 0 = CanGive c.args.self.now.shape in
    let all : All P (map (group_of gs) turns) =
    All-permutation P (map (group_of gs) c.args.order.now) (map (group_of gs) turns) (IsPermutation-map (group_of gs) c.args.order.now turns c.in_ok-turns.ensures.moved) c.requires.gives in
    subst (All P) (sym (ap (map (group_of gs)) (c.taken_by.ensures ∙ ap (sliced c.args.slice) c.deref.ensures.value) ∙ sliced-map (group_of gs) c.args.slice turns))
    (sliced-holds P c.args.slice (map (group_of gs) turns) all)

pub returns-clause-frame : goal.returns-clause-frame
returns-clause-frame c =
    let gs : List Group = c.args.self.now.groups in
    let turns : List ℕ = c.in_ok-turns.turns.items in
    subst (λ (xs : List Group). IsFrameOfGroups c.args.self.now.shape xs c.in_ok-frame.frame)
    (ap (map (group_of gs)) (c.taken_by.ensures ∙ ap (sliced c.args.slice) c.deref.ensures.value) ∙ sliced-map (group_of gs) c.args.slice turns
    ∙ ap (sliced c.args.slice) (ap (map (group_of gs)) c.in_ok-turns.ensures.turns ∙ groups-turned c.args.places.now c.args.order.now c.requires.distinct gs c.requires.count))
    c.in_ok-frame.ensures.frame
