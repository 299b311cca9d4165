use Rattle.std.proofs.Common.{◌≡◌, ◌∙◌, ◌<◌, ◌++◌, List, ℕ, [], ◌∷◌, arith, rules, length, get_or, sym}
use Rattle.std.proofs.lemmas.List.{get_or_default}
use Rattle.csv.specs.Records.{fields_of}
use Rattle.pipe_csv.proofs.RowFacts.{get-reads, get-some}
use Rattle.pipe_source.proofs.FieldsLeft.{fields-more, fields-start, fields-stop, no-value, value-of}
use Rattle.pipe_source.proofs.LaidFacts.{length-fields_at, place-here}
use Rattle.pipe_source.proofs.named_check.check_named_record.Goals as goal

pub loop-i-init : goal.loop-i-init
loop-i-init c = (
  [],
  fields-start c.args.file c.args.row c.args.columns.now _ (length-fields_at c.args.places.now (fields_of c.args.entry.now) ∙ c.requires.placed.many),
)

pub unwrap-requires : goal.unwrap-requires
unwrap-requires c =
    let place : ℕ = get_or c.args.places.now c.loop-i.i 0 in
    let within : place < length (fields_of c.args.entry.now) = c.requires.placed.within c.loop-i.i (omega (arith, c.requires.placed.many, c.loop-i-test.true)) in
    get-some (fields_of c.args.entry.now) place c.get.result within c.get.ensures.value

pub returns-then-not-does_read-clause-stop : goal.returns-then-not-does_read-clause-stop
returns-then-not-does_read-clause-stop c =
    let inv = c.loop-i.invariant in
    let ts : List (List ℕ) = fields_of c.args.entry.now in
    let place : ℕ = get_or c.args.places.now c.loop-i.i 0 in
    let few : c.loop-i.i < length c.args.places.now = omega (arith, c.requires.placed.many, c.loop-i-test.true) in
    let within : place < length ts = c.requires.placed.within c.loop-i.i few in
    let reads = get-reads ts place c.get.result c.unwrap.result within c.get.ensures.value c.unwrap.ensures in
    let here = place-here c.args.places.now ts c.loop-i.i c.unwrap.result.now few (get_or_default ts place [] c.unwrap.result.now within ∙ sym reads) in
    fields-stop c.args.file c.args.row c.args.columns.now _ c.loop-i.i inv.0 _ _ c.index-columns-i.result c.unwrap.result.now inv.1 (omega arith) c.index-columns-i.is here (no-value _ c.does_read.result c.does_read.ensures (search rules))

pub loop-i-preserved : goal.loop-i-preserved
loop-i-preserved c =
    let inv = c.loop-i.invariant in
    let ts : List (List ℕ) = fields_of c.args.entry.now in
    let place : ℕ = get_or c.args.places.now c.loop-i.i 0 in
    let few : c.loop-i.i < length c.args.places.now = omega (arith, c.requires.placed.many, c.loop-i-test.true) in
    let within : place < length ts = c.requires.placed.within c.loop-i.i few in
    let reads = get-reads ts place c.get.result c.unwrap.result within c.get.ensures.value c.unwrap.ensures in
    let here = place-here c.args.places.now ts c.loop-i.i c.unwrap.result.now few (get_or_default ts place [] c.unwrap.result.now within ∙ sym reads) in
    let value = value-of _ c.does_read.result c.does_read.ensures (search rules) in (
      inv.0 ++ (value.0 ∷ []),
      fields-more c.args.file c.args.row c.args.columns.now _ c.loop-i.i inv.0 _ _ c.index-columns-i.result c.unwrap.result.now value.0 inv.1 (omega arith) c.index-columns-i.is here value.1,
    )
