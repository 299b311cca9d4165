use Rattle.std.proofs.Common.{◌≡◌, ◌∙◌, Ok, sym, ap, rules, arith}
use Rattle.lavzimo_words.specs.Shown.{column_type, shown_as}
use Rattle.lavzimo_words.proofs.ResultFacts.{given-all, given-first, given-more}
use Rattle.lavzimo_words.proofs.shown.shown_all.Goals as goal

pub loop-item-init : goal.loop-item-init
loop-item-init c = rw c.new-columns.ensures.items (given-first (λ i. shown_as i (column_type c.args.items.now i.column)) c.args.items.now)

pub loop-item-preserved : goal.loop-item-preserved
loop-item-preserved c =
    let one : shown_as c.item-item.result (column_type c.args.items.now c.item-item.result.column) ≡ Ok c.in_ok-column.column = search rules in
    given-more (λ i. shown_as i (column_type c.args.items.now i.column)) c.args.items.now c.loop-item.item-index c.item-item.result c.in_ok-column.column c.loop-item.columns.items _
    c.loop-item-test.true (ap (λ i. shown_as i (column_type c.args.items.now i.column)) (sym c.item-item.is) ∙ one) c.in_ok-push.ensures.items c.loop-item.invariant

pub returns-clause-columns : goal.returns-clause-columns
returns-clause-columns c =
    given-all (λ i. shown_as i (column_type c.args.items.now i.column)) c.args.items.now c.loop-item.item-index c.loop-item.columns.items (omega arith) c.loop-item.invariant
