use Rattle.std.proofs.Common.{◌≡◌, ◌∙◌, ◌++◌, ◌+◌, [], ◌∷◌, ap, arith, length, sym, List, ℕ}
use Rattle.std.proofs.lemmas.List.{drop_more}
use Rattle.csv.specs.Records.{fields_of}
use Rattle.pipe_csv.proofs.RowFacts.{get-reads, get-some}
use Rattle.pipe_columns.specs.declared.any_value.AnyValue.{AnyValue}
use Rattle.pipe_csv.specs.Columns.{with_row}
use Rattle.narrow_columns.specs.Wanted.{chosen, is_wanted}
use Rattle.narrow_columns.proofs.WantedFacts.{chosen-nil}
use Rattle.narrow_columns.proofs.ChosenFacts.{fewer-chosen, push-kept, push-left}
use Rattle.pipe_source.proofs.ChosenColumns.{push-wanted}
use Rattle.pipe_source.proofs.FieldsLeft.{field-reads, field-value, fields-more, fields-start, length-push, row-fields, text-here}
use Rattle.pipe_source.proofs.row_push.push_entry.Goals as goal
use Rattle.pipe_source.proofs.row_push.push_entry.Goals.{then-is_wanted+in_ok-push_field, else-is_wanted}

pub loop-i-init : goal.loop-i-init
loop-i-init c = record {
  done = [];
  fields = fields-start 1 c.args.row c.args.fields.now (fields_of c.args.entry.now) (row-fields 1 c.args.row c.args.fields.now (fields_of c.args.entry.now) c.requires.reads.0 c.requires.reads.1);
  columns = ap (λ (t : List AnyValue). with_row t c.args.columns.now.items) (sym (chosen-nil c.args.wanted.now));
  width = c.requires.columns;
  place = ap length (sym (chosen-nil {A = AnyValue} c.args.wanted.now));
}

pub index_mut-requires : goal.index_mut-requires
index_mut-requires c =
    let inv = c.loop-i.invariant in
    let less = fewer-chosen c.args.wanted.now inv.done c.args.fields.now (omega (arith, inv.fields.count)) (ap (is_wanted c.args.wanted.now) inv.fields.count ∙ sym c.is_wanted.ensures ∙ c.if-is_wanted.true) in
    omega (arith, inv.width, inv.place, less)

pub unwrap-requires : goal.unwrap-requires
unwrap-requires c =
    let ts : List (List ℕ) = fields_of c.args.entry.now in
    let count : length ts ≡ length c.args.fields.now = row-fields 1 c.args.row c.args.fields.now ts c.requires.reads.0 c.requires.reads.1 in
    get-some ts c.loop-i.i c.get.result (omega arith) c.get.ensures.value

pub push_field-requires : goal.push_field-requires
push_field-requires c =
    let inv = c.loop-i.invariant in
    let ts : List (List ℕ) = fields_of c.args.entry.now in
    let count : length ts ≡ length c.args.fields.now = row-fields 1 c.args.row c.args.fields.now ts c.requires.reads.0 c.requires.reads.1 in
    let reads = get-reads ts c.loop-i.i c.get.result c.unwrap.result (omega arith) c.get.ensures.value c.unwrap.ensures in
    let here = text-here ts c.loop-i.i c.unwrap.result.now (omega arith) reads in
    field-reads c.index-fields-i.result.dtype _ (field-value 1 c.args.row c.args.fields.now _ c.requires.reads.0 c.loop-i.i inv.done _ _ c.index-fields-i.result _ inv.fields c.requires.reads.1 (omega arith) c.index-fields-i.is here)

pub overflow_add-place : goal.overflow_add-place
overflow_add-place c =
    let inv = c.loop-i.invariant in
    let less = fewer-chosen c.args.wanted.now inv.done c.args.fields.now (omega (arith, inv.fields.count)) (ap (is_wanted c.args.wanted.now) inv.fields.count ∙ sym c.is_wanted.ensures ∙ c.if-is_wanted.true) in
    omega (arith, inv.width, inv.place, less, c.loop-i.columns.ok, c.loop-i.columns.small)

pub loop-i-preserved : goal.loop-i-preserved
loop-i-preserved c =
    let inv = c.loop-i.invariant in
    let ts : List (List ℕ) = fields_of c.args.entry.now in
    let count : length ts ≡ length c.args.fields.now = row-fields 1 c.args.row c.args.fields.now ts c.requires.reads.0 c.requires.reads.1 in
    elim c.if-is_wanted.branch [
      | then-is_wanted+in_ok-push_field w ↦
          let pushed = w.in_ok-push_field.ensures in
          let reads = get-reads ts c.loop-i.i w.get.result w.unwrap.result (omega arith) w.get.ensures.value w.unwrap.ensures in
          let here = text-here ts c.loop-i.i w.unwrap.result.now (omega arith) reads in
          let wanted = ap (is_wanted c.args.wanted.now) inv.fields.count ∙ sym c.is_wanted.ensures ∙ w.if-is_wanted.true in
          let less = fewer-chosen c.args.wanted.now inv.done c.args.fields.now (omega (arith, inv.fields.count)) wanted in
          rw (w.columns-is, w.place-is) (record {
            done = inv.done ++ (pushed.0 ∷ []);
            fields = fields-more 1 c.args.row c.args.fields.now _ c.loop-i.i inv.done _ _ c.index-fields-i.result _ pushed.0 inv.fields (omega arith) c.index-fields-i.is here pushed.1;
            columns = push-wanted c.args.wanted.now c.loop-i.columns.items c.loop-i.place w.index_mut.result.now w.push_field.new.column inv.done pushed.0 c.args.columns.now.items wanted inv.columns inv.place (omega (arith, inv.width, inv.place, less, c.loop-i.columns.ok.0)) w.index_mut.ensures.value pushed.2;
            width = inv.width;
            place = ap (λ n. n + 1) inv.place ∙ sym (ap length (push-kept c.args.wanted.now inv.done pushed.0 wanted) ∙ length-push (chosen c.args.wanted.now inv.done) pushed.0);
          })
      | else-is_wanted w ↦
          let here = drop_more ts c.loop-i.i [] (omega arith) in
          let value = field-value 1 c.args.row c.args.fields.now _ c.requires.reads.0 c.loop-i.i inv.done _ _ c.index-fields-i.result _ inv.fields c.requires.reads.1 (omega arith) c.index-fields-i.is here in
          let left = push-left c.args.wanted.now inv.done value.0 (ap (is_wanted c.args.wanted.now) inv.fields.count ∙ sym c.is_wanted.ensures ∙ w.if-is_wanted.false) in
          rw (w.columns-is, w.place-is) (record {
            done = inv.done ++ (value.0 ∷ []);
            fields = fields-more 1 c.args.row c.args.fields.now _ c.loop-i.i inv.done _ _ c.index-fields-i.result _ value.0 inv.fields (omega arith) c.index-fields-i.is here value.1;
            columns = rw left inv.columns;
            width = inv.width;
            place = rw left inv.place;
          })
    ]
