use Rattle.std.proofs.Common.{◌∙◌, ℕ, List, length, map, ap, sym}
use Rattle.std.proofs.lemmas.List.{length-map}
use Rattle.std.proofs.lemmas.List.Sorted.{length_permutation}
use Rattle.pipe_columns.specs.declared.place.Place.{Place}
use Rattle.pipe_groups.proofs.PlaceOrder.{numbers-in_order, row_number, row_place}
use Rattle.pipe_groups.proofs.place_order.order_of_places.Goals as goal

pub returns-clause-order : goal.returns-clause-order
returns-clause-order c =
    c.in_ok-order.ensures ∙ ap (map row_number) c.deref.ensures.value
    ∙ numbers-in_order c.args.places.now c.requires c.in_ok-rows.rows.items c.sort_unstable.new.self.items c.in_ok-rows.ensures.places c.in_ok-rows.ensures.each c.sort_unstable.ensures.permutation c.sort_unstable.ensures.sorted

pub returns-clause-count : goal.returns-clause-count
returns-clause-count c =
    ap (λ (xs : List ℕ). length xs) (c.in_ok-order.ensures ∙ ap (map row_number) c.deref.ensures.value) ∙ length-map c.sort_unstable.new.self.items row_number
    ∙ length_permutation c.in_ok-rows.rows.items c.sort_unstable.new.self.items c.sort_unstable.ensures.permutation ∙ sym (length-map c.in_ok-rows.rows.items row_place)
    ∙ ap (λ (ps : List Place). length ps) c.in_ok-rows.ensures.places
