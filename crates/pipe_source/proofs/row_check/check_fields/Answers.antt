use Rattle.std.proofs.Common.{◌∙◌, ◌++◌, [], ◌∷◌, arith, rules, length}
use Rattle.pipe_source.proofs.FieldsLeft.{cut-here, fields-more, fields-start, fields-stop, length-cut, no-value, order-here, value-of}
use Rattle.pipe_source.proofs.row_check.check_fields.Goals as goal

pub loop-i-init : goal.loop-i-init
loop-i-init c = (
  [],
  fields-start c.args.file c.args.row c.args.fields.now _ (length-cut c.args.text.now c.args.start c.args.ends.now ∙ c.requires.width),
  c.requires.order,
)

pub returns-then-not-does_read_at-clause-stop : goal.returns-then-not-does_read_at-clause-stop
returns-then-not-does_read_at-clause-stop c =
    let inv = c.loop-i.invariant in
    let here = cut-here c.args.text.now c.loop-i.low c.args.ends.now c.loop-i.i (omega (arith, c.requires.width)) in
    fields-stop c.args.file c.args.row c.args.fields.now _ c.loop-i.i inv.0 _ _ c.index-fields-i.result _ inv.1 (omega arith) c.index-fields-i.is here (no-value _ c.does_read_at.result c.does_read_at.ensures (search rules))

pub loop-i-preserved : goal.loop-i-preserved
loop-i-preserved c =
    let inv = c.loop-i.invariant in
    let here = cut-here c.args.text.now c.loop-i.low c.args.ends.now c.loop-i.i (omega (arith, c.requires.width)) in
    let value = value-of _ c.does_read_at.result c.does_read_at.ensures (search rules) in (
      inv.0 ++ (value.0 ∷ []),
      fields-more c.args.file c.args.row c.args.fields.now _ c.loop-i.i inv.0 _ _ c.index-fields-i.result _ value.0 inv.1 (omega arith) c.index-fields-i.is here value.1,
      (order-here (length c.args.text.now) c.loop-i.low c.args.ends.now c.loop-i.i inv.2 (omega (arith, c.requires.width))).2,
    )
