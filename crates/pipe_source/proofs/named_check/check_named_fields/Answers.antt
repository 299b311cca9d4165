use Rattle.std.proofs.Common.{◌≡◌, ◌∙◌, ◌<◌, ◌++◌, List, ℕ, [], ◌∷◌, arith, rules, length}
use Rattle.pipe_scan.specs.Records.{cut}
use Rattle.pipe_source.proofs.FieldsLeft.{fields-more, fields-start, fields-stop, no-value, value-of}
use Rattle.pipe_source.proofs.LaidFacts.{length-fields_at, place-here}
use Rattle.pipe_source.proofs.named_check.check_named_fields.Goals as goal

pub loop-i-init : goal.loop-i-init
loop-i-init c = (
  [],
  fields-start c.args.file c.args.row c.args.columns.now _ (length-fields_at c.args.places.now (cut c.args.text.now c.args.start c.args.ends.now) ∙ c.requires.placed.many),
)

pub returns-then-not-does_read_at-clause-stop : goal.returns-then-not-does_read_at-clause-stop
returns-then-not-does_read_at-clause-stop c =
    let inv = c.loop-i.invariant in
    let ts : List (List ℕ) = cut c.args.text.now c.args.start c.args.ends.now in
    let within : c.loop-i.i < length c.args.places.now = omega (arith, c.requires.placed.many, c.loop-i-test.true) in
    let here = place-here c.args.places.now ts c.loop-i.i _ within c.field_bounds-low.ensures.field in
    fields-stop c.args.file c.args.row c.args.columns.now _ c.loop-i.i inv.0 _ _ c.index-columns-i.result _ inv.1 (omega arith) c.index-columns-i.is here (no-value _ c.does_read_at.result c.does_read_at.ensures (search rules))

pub loop-i-preserved : goal.loop-i-preserved
loop-i-preserved c =
    let inv = c.loop-i.invariant in
    let ts : List (List ℕ) = cut c.args.text.now c.args.start c.args.ends.now in
    let within : c.loop-i.i < length c.args.places.now = omega (arith, c.requires.placed.many, c.loop-i-test.true) in
    let here = place-here c.args.places.now ts c.loop-i.i _ within c.field_bounds-low.ensures.field in
    let value = value-of _ c.does_read_at.result c.does_read_at.ensures (search rules) in (
      inv.0 ++ (value.0 ∷ []),
      fields-more c.args.file c.args.row c.args.columns.now _ c.loop-i.i inv.0 _ _ c.index-columns-i.result _ value.0 inv.1 (omega arith) c.index-columns-i.is here value.1,
    )
