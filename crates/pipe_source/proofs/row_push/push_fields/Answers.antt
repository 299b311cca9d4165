use Rattle.std.proofs.Common.{◌≡◌, ◌∙◌, ◌<◌, ℕ, List, ap, arith, get_or, length, refl, sym}
use Rattle.std.proofs.lemmas.List.{get_or_default, length-map, length-take-le, take_all}
use Rattle.std.proofs.lemmas.Option.{same_Some}
use Rattle.pipe_columns.specs.declared.any_value.AnyValue.{AnyValue}
use Rattle.pipe_columns.specs.declared.any_value.AnyValue.TheVariants as av
use Rattle.pipe_csv.specs.Columns.{with_row}
use Rattle.pipe_csv.proofs.ReadFacts.{length-row}
use Rattle.pipe_scan.specs.Records.{between}
use Rattle.pipe_source.proofs.ChosenColumns.{push-at}
use Rattle.pipe_source.proofs.FieldsLeft.{field-reads}
use Rattle.pipe_source.proofs.PlacedFields.{bounded-at, place-below, places-count, values-chosen, values-more, values_at}
use Rattle.pipe_source.proofs.row_push.push_fields.Goals as goal

-- the place is one of the fields'
pub field_bounds-low-requires-clause-place : goal.field_bounds-low-requires-clause-place
field_bounds-low-requires-clause-place c =
    let b = place-below c.args.wanted.now (length c.args.fields.now) c.args.places.now c.loop-i.i 0 c.requires.places c.loop-i-test.true in
    omega (arith, b, c.requires.width)

pub bounds-fields-place : goal.bounds-fields-place
bounds-fields-place c = place-below c.args.wanted.now (length c.args.fields.now) c.args.places.now c.loop-i.i 0 c.requires.places c.loop-i-test.true

pub bounds-fields-place-in-loop-i : goal.bounds-fields-place-in-loop-i
bounds-fields-place-in-loop-i c = place-below c.args.wanted.now (length c.args.fields.now) c.args.places.now c.loop-i.i 0 c.requires.places c.loop-i-test.true

pub index_mut-requires : goal.index_mut-requires
index_mut-requires c =
    let n = places-count c.args.wanted.now c.args.fields.now in
    let p = ap length c.requires.places in
    omega (arith, n, p, c.loop-i.invariant.width, c.loop-i-test.true)

pub offset_bounds-fields-place : goal.offset_bounds-fields-place
offset_bounds-fields-place c =
    let b = place-below c.args.wanted.now (length c.args.fields.now) c.args.places.now c.loop-i.i 0 c.requires.places c.loop-i-test.true in
    omega (arith, b)

pub push_field_at-requires-clause-reads : goal.push_field_at-requires-clause-reads
push_field_at-requires-clause-reads c =
    let place : ℕ = get_or c.args.places.now c.loop-i.i 0 in
    let b : place < length c.args.fields.now = place-below c.args.wanted.now (length c.args.fields.now) c.args.places.now c.loop-i.i 0 c.requires.places c.loop-i-test.true in
    let r = bounded-at 1 c.args.row c.args.fields.now _ c.requires.reads.0 place c.index-fields-place.result c.args.text.now c.field_bounds-low.result.0 c.field_bounds-low.result.1 c.requires.reads.1 b c.field_bounds-low.ensures.field in
    field-reads (get_or c.args.fields.now place c.index-fields-place.result).dtype (between c.args.text.now c.field_bounds-low.result.0 c.field_bounds-low.result.1) (get_or c.requires.reads.0 place av.Null, r)

pub loop-i-preserved : goal.loop-i-preserved
loop-i-preserved c = record {
  columns = λ values h.
      let i : ℕ = c.loop-i.i in
      let places = c.args.places.now in
      let place : ℕ = get_or places i 0 in
      let b : place < length c.args.fields.now = place-below c.args.wanted.now (length c.args.fields.now) places i 0 c.requires.places c.loop-i-test.true in
      let pushed = c.in_ok-push_field_at.ensures in
      let r = bounded-at 1 c.args.row c.args.fields.now _ values place c.index-fields-place.result c.args.text.now c.field_bounds-low.result.0 c.field_bounds-low.result.1 h b c.field_bounds-low.ensures.field in
      let e : pushed.0 ≡ get_or values place av.Null = same_Some pushed.0 (get_or values place av.Null) (sym pushed.1 ∙ r) in
      let more = values-more values places i place pushed.0 c.loop-i-test.true (get_or_default places i 0 place c.loop-i-test.true) e in
      let size : length (values_at values places) ≡ length places = length-map places (λ p. get_or values p av.Null) in
      let n = length-take-le i (values_at values places) (omega (arith, size, c.loop-i-test.true)) in
      let count = places-count c.args.wanted.now c.args.fields.now in
      let same = ap length c.requires.places in
      let l : i < length c.loop-i.columns.items = omega (arith, count, same, c.loop-i.invariant.width, c.loop-i-test.true, c.loop-i.columns.ok.0) in
      push-at c.loop-i.columns.items i c.index_mut.result.now c.push_field_at.new.column _ pushed.0 c.args.columns.now.items (c.loop-i.invariant.columns values h) n l c.index_mut.ensures.value pushed.2
      ∙ ap (λ t. with_row t c.args.columns.now.items) (sym more);
  width = c.loop-i.invariant.width;
}

pub returns-clause-pushed : goal.returns-clause-pushed
returns-clause-pushed c =
    let values : List AnyValue = c.requires.reads.0 in
    let places = c.args.places.now in
    let n = length-row 1 c.args.row c.args.fields.now _ values _ refl c.requires.reads.1 in
    let size : length (values_at values places) ≡ length places = length-map places (λ p. get_or values p av.Null) in
    let all = take_all c.loop-i.i (values_at values places) (omega (arith, size, c.loop-i-test.false)) in
    let chosen = ap (values_at values) c.requires.places ∙ values-chosen c.args.wanted.now values (length c.args.fields.now) n in
    (values, c.requires.reads.1, c.loop-i.invariant.columns values c.requires.reads.1 ∙ ap (λ t. with_row t c.args.columns.now.items) (all ∙ chosen))
