use Rattle.std.proofs.Common.{◌∙◌, sym}
use Rattle.narrow_columns.proofs.WantedFacts.{chosen-end, chosen-kept, chosen-left}
use Rattle.narrow_columns.proofs.wanted.chosen_schema.Goals as goal
use Rattle.narrow_columns.proofs.wanted.chosen_schema.Goals.{then-is_wanted+in_ok-push_field, else-is_wanted}

pub loop-i-preserved : goal.loop-i-preserved
loop-i-preserved c =
    let ws = c.args.wanted.now in
    let xs = c.args.fields.now in
    elim c.if-is_wanted.branch [
      | then-is_wanted+in_ok-push_field w ↦ rw (w.kept-is, w.in_ok-push_field.ensures) (chosen-kept ws xs _ c.loop-i.kept.items c.loop-i.i c.index-fields-i.result c.loop-i-test.true c.index-fields-i.is (sym c.is_wanted.ensures ∙ w.if-is_wanted.true) c.loop-i.invariant)
      | else-is_wanted w ↦ rw w.kept-is (chosen-left ws xs _ c.loop-i.kept.items c.loop-i.i c.index-fields-i.result c.loop-i-test.true c.index-fields-i.is (sym c.is_wanted.ensures ∙ w.if-is_wanted.false) c.loop-i.invariant)
    ]

pub returns : goal.returns
returns c = c.new.ensures ∙ sym (chosen-end c.args.wanted.now c.args.fields.now _ c.loop-i.kept.items c.loop-i.i c.loop-i-test.false c.loop-i.invariant)
