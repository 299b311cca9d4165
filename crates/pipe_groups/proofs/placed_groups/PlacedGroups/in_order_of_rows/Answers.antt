use Rattle.std.proofs.Common.{◌≡◌, ◌∙◌, ℕ, List, length, map, ap, arith}
use Rattle.pipe_columns.specs.Groups.{sorted_keys}
use Rattle.pipe_columns.specs.Place.{place_cmp}
use Rattle.pipe_columns.specs.Slice.{sliced}
use Rattle.pipe_columns.specs.declared.place.Place.{Place}
use Rattle.pipe_groups.specs.Given.{slice_after}
use Rattle.pipe_groups.specs.PlacedRanks.{place_at}
use Rattle.pipe_groups.proofs.PlaceOrder.{rows-in_order}
use Rattle.pipe_groups.proofs.placed_groups.PlacedGroups.in_order_of_rows.Goals as goal

pub returns-clause-frame : goal.returns-clause-frame
returns-clause-frame c =
    let places : List Place = c.args.self.now.firsts in
    let order : c.in_ok-order.order.items ≡ map (place_at places) (sorted_keys place_cmp places) =
    c.in_ok-order.ensures.order ∙ ap (λ (ps : List Place). map (place_at ps) (sorted_keys place_cmp ps)) c.as_slice.ensures in
    c.in_ok-frame.ensures ∙ rows-in_order places c.args.self.now.frame c.args.slice.now c.taken_by.result.now
    (c.taken_by.ensures ∙ ap (sliced c.args.slice.now) (c.deref.ensures.value ∙ order))

pub returns-clause-slice : goal.returns-clause-slice
returns-clause-slice c =
    let count : c.len.result ≡ length c.args.self.now.firsts =
    omega (arith, c.len.ensures, c.in_ok-order.order.ok.0, c.in_ok-order.ensures.count, ap (λ (ps : List Place). length ps) c.as_slice.ensures) in
    c.left_of.ensures ∙ ap (λ (n : ℕ). slice_after n c.args.slice.now) count
