use Rattle.std.proofs.Common.{◌≡◌, ◌∙◌, ◌<◌, ◌++◌, List, ℕ, [], ◌∷◌, arith, rules, length, get_or, refl, sym}
use Rattle.std.proofs.lemmas.List.{get_or_default}
use Rattle.csv.specs.Records.{fields_of}
use Rattle.pipe_csv.proofs.RowFacts.{get-reads, get-some}
use Rattle.pipe_source.proofs.ChosenColumns.{push-at}
use Rattle.pipe_source.proofs.FieldsLeft.{field-reads, field-value, fields-end, fields-more, fields-start}
use Rattle.pipe_source.proofs.LaidFacts.{length-fields_at, place-here}
use Rattle.pipe_source.proofs.named_push.push_named_record.Goals as goal

pub loop-i-init : goal.loop-i-init
loop-i-init c = record {
  done = [];
  fields = fields-start 1 c.args.row c.args.columns.now _ (length-fields_at c.args.places.now (fields_of c.args.entry.now) ∙ c.requires.placed.many);
  fills = refl;
  width = c.requires.columns;
}

pub unwrap-field-requires : goal.unwrap-field-requires
unwrap-field-requires c =
    let place : ℕ = get_or c.args.places.now c.loop-i.i 0 in
    let within : place < length (fields_of c.args.entry.now) = c.requires.placed.within c.loop-i.i (omega (arith, c.requires.placed.many, c.loop-i-test.true)) in
    get-some (fields_of c.args.entry.now) place c.get.result within c.get.ensures.value

pub push_field-requires : goal.push_field-requires
push_field-requires c =
    let inv = c.loop-i.invariant in
    let ts : List (List ℕ) = fields_of c.args.entry.now in
    let place : ℕ = get_or c.args.places.now c.loop-i.i 0 in
    let few : c.loop-i.i < length c.args.places.now = omega (arith, c.requires.placed.many, c.loop-i-test.true) in
    let within : place < length ts = c.requires.placed.within c.loop-i.i few in
    let reads = get-reads ts place c.get.result c.unwrap-field.result within c.get.ensures.value c.unwrap-field.ensures in
    let here = place-here c.args.places.now ts c.loop-i.i c.unwrap-field.result.now few (get_or_default ts place [] c.unwrap-field.result.now within ∙ sym reads) in
    field-reads c.index-columns-i.result.dtype _ (field-value 1 c.args.row c.args.columns.now _ c.requires.reads.0 c.loop-i.i inv.done _ _ c.index-columns-i.result c.unwrap-field.result.now inv.fields c.requires.reads.1 (omega arith) c.index-columns-i.is here)

pub loop-i-preserved : goal.loop-i-preserved
loop-i-preserved c =
    let inv = c.loop-i.invariant in
    let ts : List (List ℕ) = fields_of c.args.entry.now in
    let place : ℕ = get_or c.args.places.now c.loop-i.i 0 in
    let few : c.loop-i.i < length c.args.places.now = omega (arith, c.requires.placed.many, c.loop-i-test.true) in
    let within : place < length ts = c.requires.placed.within c.loop-i.i few in
    let reads = get-reads ts place c.get.result c.unwrap-field.result within c.get.ensures.value c.unwrap-field.ensures in
    let here = place-here c.args.places.now ts c.loop-i.i c.unwrap-field.result.now few (get_or_default ts place [] c.unwrap-field.result.now within ∙ sym reads) in
    let pushed = c.in_ok-push_field.ensures in
    let room : c.loop-i.i < length c.loop-i.fills.items = omega (arith, inv.width, c.loop-i-test.true, c.loop-i.fills.ok.0) in record {
      done = inv.done ++ (pushed.0 ∷ []);
      fields = fields-more 1 c.args.row c.args.columns.now _ c.loop-i.i inv.done _ _ c.index-columns-i.result c.unwrap-field.result.now pushed.0 inv.fields (omega arith) c.index-columns-i.is here pushed.1;
      fills = push-at c.loop-i.fills.items c.loop-i.i c.index_mut.result.now c.push_field.new.column inv.done pushed.0 c.args.fills.now.items inv.fills inv.fields.count room c.index_mut.ensures.value pushed.2;
      width = inv.width;
    }

pub returns-clause-pushed : goal.returns-clause-pushed
returns-clause-pushed c =
    let inv = c.loop-i.invariant in
    (inv.done, fields-end 1 c.args.row c.args.columns.now _ c.loop-i.i inv.done _ inv.fields (omega (arith, c.loop-i-test.false)), inv.fills)
