use Rattle.std.proofs.Common.{◌≡◌, ◌∙◌, ◌<◌, ◌++◌, List, ℕ, [], ◌∷◌, arith, rules, length, get_or, refl, sym}
use Rattle.pipe_scan.specs.Records.{cut}
use Rattle.pipe_source.proofs.ChosenColumns.{push-at}
use Rattle.pipe_source.proofs.FieldsLeft.{field-reads, field-value, fields-end, fields-more, fields-start}
use Rattle.pipe_source.proofs.LaidFacts.{length-fields_at, place-here}
use Rattle.pipe_source.proofs.named_push.push_named_fields.Goals as goal

pub loop-i-init : goal.loop-i-init
loop-i-init c = record {
  done = [];
  fields = fields-start 1 c.args.row c.args.columns.now _ (length-fields_at c.args.places.now (cut c.args.text.now c.args.start c.args.ends.now) ∙ c.requires.placed.many);
  fills = refl;
  width = c.requires.columns;
}

pub push_field_at-requires-clause-reads : goal.push_field_at-requires-clause-reads
push_field_at-requires-clause-reads c =
    let inv = c.loop-i.invariant in
    let ts : List (List ℕ) = cut c.args.text.now c.args.start c.args.ends.now in
    let few : c.loop-i.i < length c.args.places.now = omega (arith, c.requires.placed.many, c.loop-i-test.true) in
    let here = place-here c.args.places.now ts c.loop-i.i _ few c.field_bounds-low.ensures.field in
    field-reads c.index-columns-i.result.dtype _ (field-value 1 c.args.row c.args.columns.now _ c.requires.reads.0 c.loop-i.i inv.done _ _ c.index-columns-i.result _ inv.fields c.requires.reads.1 (omega arith) c.index-columns-i.is here)

pub loop-i-preserved : goal.loop-i-preserved
loop-i-preserved c =
    let inv = c.loop-i.invariant in
    let ts : List (List ℕ) = cut c.args.text.now c.args.start c.args.ends.now in
    let few : c.loop-i.i < length c.args.places.now = omega (arith, c.requires.placed.many, c.loop-i-test.true) in
    let here = place-here c.args.places.now ts c.loop-i.i _ few c.field_bounds-low.ensures.field in
    let pushed = c.in_ok-push_field_at.ensures in
    let room : c.loop-i.i < length c.loop-i.fills.items = omega (arith, inv.width, c.loop-i-test.true, c.loop-i.fills.ok.0) in record {
      done = inv.done ++ (pushed.0 ∷ []);
      fields = fields-more 1 c.args.row c.args.columns.now _ c.loop-i.i inv.done _ _ c.index-columns-i.result _ pushed.0 inv.fields (omega arith) c.index-columns-i.is here pushed.1;
      fills = push-at c.loop-i.fills.items c.loop-i.i c.index_mut.result.now c.push_field_at.new.column inv.done pushed.0 c.args.fills.now.items inv.fills inv.fields.count room c.index_mut.ensures.value pushed.2;
      width = inv.width;
    }

pub returns-clause-pushed : goal.returns-clause-pushed
returns-clause-pushed c =
    let inv = c.loop-i.invariant in
    (inv.done, fields-end 1 c.args.row c.args.columns.now _ c.loop-i.i inv.done _ inv.fields (omega (arith, c.loop-i-test.false)), inv.fills)
