use Rattle.std.proofs.Common.{◌≡◌, ◌∙◌, ◌<◌, ℕ, List, length, map, nat_eq, ap, arith, sym, subst}
use Rattle.std.specs.List.{All, IsDistinct}
use Rattle.pipe_columns.specs.Slice.{sliced}
use Rattle.pipe_groups.specs.Given.{CanGive, IsFrameOfGroups, slice_after}
use Rattle.pipe_groups.specs.Groups.{count_held, Group, group_of}
use Rattle.pipe_groups.proofs.SliceFacts.{groups-give, sliced-apart, sliced-holds, sliced-map}
use Rattle.pipe_groups.proofs.groups.Groups.finalize.Goals as goal

pub give-requires-clause-within : goal.give-requires-clause-within
give-requires-clause-within c =
    let P : ℕ → Type 0 = λ i. i < length c.args.self.now.groups in
    subst (All P) (sym (c.taken_by.ensures ∙ ap (sliced c.args.slice.now) c.deref.ensures.value)) (sliced-holds P c.args.slice.now c.in_ok-order.order.items c.in_ok-order.ensures.within)

pub give-requires-clause-once : goal.give-requires-clause-once
give-requires-clause-once c =
    subst (IsDistinct nat_eq) (sym (c.taken_by.ensures ∙ ap (sliced c.args.slice.now) c.deref.ensures.value)) (sliced-apart nat_eq c.args.slice.now c.in_ok-order.order.items c.in_ok-order.ensures.once)

pub give-requires-clause-gives : goal.give-requires-clause-gives
give-requires-clause-gives c =
    let gs : List Group = c.args.self.now.groups in
    let P : Group → Type 0 = CanGive c.args.self.now.shape in
    let all : All P (map (group_of gs) c.in_ok-order.order.items) = groups-give c.args.self.now.shape gs c.in_ok-order.order.items c.requires.gives c.in_ok-order.ensures.within c.in_ok-order.ensures.rows in
    subst (All P) (sym (ap (map (group_of gs)) (c.taken_by.ensures ∙ ap (sliced c.args.slice.now) c.deref.ensures.value) ∙ sliced-map (group_of gs) c.args.slice.now c.in_ok-order.order.items))
    (sliced-holds P c.args.slice.now (map (group_of gs) c.in_ok-order.order.items) all)

pub returns-clause-frame : goal.returns-clause-frame
returns-clause-frame c =
    let gs : List Group = c.args.self.now.groups in
    subst (λ (xs : List Group). IsFrameOfGroups c.args.self.now.shape xs c.in_ok-frame.frame)
    (ap (map (group_of gs)) (c.taken_by.ensures ∙ ap (sliced c.args.slice.now) c.deref.ensures.value) ∙ sliced-map (group_of gs) c.args.slice.now c.in_ok-order.order.items
    ∙ ap (sliced c.args.slice.now) c.in_ok-order.ensures.order)
    c.in_ok-frame.ensures.frame

pub returns-clause-slice : goal.returns-clause-slice
returns-clause-slice c =
    let held : c.len.result ≡ count_held c.args.self.now.groups = omega (arith, c.len.ensures, c.in_ok-order.order.ok.0, c.in_ok-order.ensures.count) in
    c.left_of.ensures ∙ ap (λ (n : ℕ). slice_after n c.args.slice.now) held
