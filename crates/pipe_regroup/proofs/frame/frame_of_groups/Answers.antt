use Rattle.std.proofs.Common.{arith, ◌≡◌, ◌∙◌, ◌≤◌, ◌++◌, ◌∷◌, [], false, List, length, map, take_all, sym, ap, subst}
use Rattle.std.proofs.lemmas.List.{length-map}
use Rattle.pipe_columns.specs.declared.any_value.AnyValue.{AnyValue}
use Rattle.pipe_columns.specs.declared.schema.Field.{Field}
use Rattle.pipe_columns.specs.Frame.{all_have_height, AreOfType, columns_from}
use Rattle.pipe_regroup.specs.Frames.{AreRowsOf, values_at, values_of, without}
use Rattle.pipe_regroup.proofs.FrameRows.{column-more, column-typed, columns-high, is_there, next-values, none-emptied, rows-emptied}
use Rattle.pipe_regroup.proofs.frame.frame_of_groups.Goals as goal

pub loop-place-init : goal.loop-place-init
loop-place-init c = record { columns = c.in_ok-columns.ensures.items; rows = none-emptied (map values_of c.args.groups.now) }

pub column_of-requires : goal.column_of-requires
column_of-requires c =
    let rows : List (List AnyValue) = map values_of c.args.groups.now in
    let place = c.loop-place.place in
    let f : Field = c.index-fields-place.result in
    let values : c.in_ok-values.values.items ≡ values_at place rows =
    c.in_ok-values.ensures.values ∙ ap (values_at place) c.loop-place.invariant.rows ∙ next-values place rows in
    subst (AreOfType f.dtype) (sym values)
    (column-typed c.fields-fields.result.now place f c.loop-place-test.true c.index-fields-place.is c.args.groups.now
    (subst (λ (fs : List Field). AreRowsOf fs c.args.groups.now) (sym c.fields-fields.ensures) c.requires))

pub loop-place-preserved : goal.loop-place-preserved
loop-place-preserved c =
    let rows : List (List AnyValue) = map values_of c.args.groups.now in
    let place = c.loop-place.place in
    let f : Field = c.index-fields-place.result in
    let fields : List Field = c.fields-fields.result.now in
    let values : c.in_ok-values.values.items ≡ values_at place rows =
    c.in_ok-values.ensures.values ∙ ap (values_at place) c.loop-place.invariant.rows ∙ next-values place rows in
    let column : c.in_ok-column_of.field-0 ≡ record { name = f.name; dtype = f.dtype; sorted = false; values = values_at place rows } =
    c.in_ok-column_of.ensures ∙ ap (λ (vs : List AnyValue). record { name = f.name; dtype = f.dtype; sorted = false; values = vs }) values in
    record {
      columns = c.in_ok-push.ensures.items ∙ (λ i. c.loop-place.invariant.columns i ++ column i ∷ []) ∙ column-more fields place f rows c.loop-place-test.true c.index-fields-place.is;
      rows = c.in_ok-values.ensures.rest ∙ ap (map (without place)) c.loop-place.invariant.rows ∙ rows-emptied place rows;
    }

pub unwrap-requires : goal.unwrap-requires
unwrap-requires c =
    let rows : List (List AnyValue) = map values_of c.args.groups.now in
    let fields : List Field = c.fields-fields.result.now in
    let past : length fields ≤ c.loop-place.place = c.loop-place-test.false in
    let columns : c.loop-place.columns.items ≡ columns_from 0 fields rows =
    c.loop-place.invariant.columns ∙ ap (λ (fs : List Field). columns_from 0 fs rows) (take_all c.loop-place.place fields past) in
    let long = length-map c.args.groups.now values_of in
    let many : length c.loop-place.groups ≡ length rows = omega (arith, long, c.loop-place.auto.groups) in
    is_there c.new.result (all_have_height (length c.loop-place.groups) c.loop-place.columns.items) c.new.ensures.none
    ((λ i. all_have_height (many i) (columns i)) ∙ columns-high 0 fields rows)
