use Rattle.std.proofs.Common.{◌∙◌, map, ap, sym, subst}
use Rattle.std.specs.List.Sorted.{IsPermutation}
use Rattle.pipe_groups.proofs.PlaceOrder.{row_number}
use Rattle.pipe_groups.proofs.TurnFacts.{turns-are, turns-moved}
use Rattle.pipe_groups.proofs.turns.in_turn.Goals as goal

pub returns-clause-turns : goal.returns-clause-turns
returns-clause-turns c =
    c.in_ok-turns.ensures ∙ ap (map row_number) c.deref.ensures.value
    ∙ turns-are c.args.places.now c.args.order.now c.requires.distinct c.in_ok-rows.rows.items c.sort_unstable.new.self.items c.in_ok-rows.ensures.places c.in_ok-rows.ensures.order
    c.sort_unstable.ensures.permutation c.sort_unstable.ensures.sorted

pub returns-clause-moved : goal.returns-clause-moved
returns-clause-moved c =
    subst (IsPermutation c.args.order.now) (sym (c.in_ok-turns.ensures ∙ ap (map row_number) c.deref.ensures.value))
    (turns-moved c.args.places.now c.args.order.now c.requires.distinct c.in_ok-rows.rows.items c.sort_unstable.new.self.items c.in_ok-rows.ensures.places c.in_ok-rows.ensures.order
    c.sort_unstable.ensures.permutation c.sort_unstable.ensures.sorted)
