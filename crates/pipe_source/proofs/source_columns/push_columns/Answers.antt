use Rattle.std.proofs.Common.{◌≡◌, ◌∙◌, Global, Vec, ap, arith, rules, true}
use Rattle.std.specs.Result.{is_ok}
use Rattle.pipe_columns.specs.declared.any_value.AnyValue.{AnyValue}
use Rattle.pipe_csv.specs.Columns.{column_of}
use Rattle.pipe_csv.proofs.ColumnFacts.{make-columns}
use Rattle.pipe_csv.proofs.HoldFacts.{height-push, hold-step}
use Rattle.pipe_source.proofs.source_columns.push_columns.Goals as goal

pub make_column-requires : goal.make_column-requires
make_column-requires c =
    let inv = c.loop-i.invariant in
    let hold = hold-step c.args.height c.args.fields.now c.loop-i.columns.items c.loop-i.i c.index-fields-i.result c.index_mut.result.now c.replace-values.new.dest inv.hold (omega arith) (omega (arith, inv.width, c.loop-i.columns.ok.0)) c.index-fields-i.is c.index_mut.ensures.value in
    rw c.replace-values.ensures.value hold.0

pub loop-i-preserved : goal.loop-i-preserved
loop-i-preserved c =
    let inv = c.loop-i.invariant in
    let good : is_ok c.push.result ≡ true = search rules in
    let items = rw good at c.push.ensures.items in
    let column = c.in_ok-make_column.ensures ∙ ap (λ (v : Vec AnyValue Global). column_of c.index-fields-i.result v.items) c.replace-values.ensures.value in
    let hold = hold-step c.args.height c.args.fields.now c.loop-i.columns.items c.loop-i.i c.index-fields-i.result c.index_mut.result.now c.replace-values.new.dest inv.hold (omega arith) (omega (arith, inv.width, c.loop-i.columns.ok.0)) c.index-fields-i.is c.index_mut.ensures.value in
    record {
      width = inv.width;
      columns = rw items (make-columns c.args.fields.now c.loop-i.columns.items c.loop-i.i c.index-fields-i.result c.index_mut.result.now c.replace-values.new.dest c.loop-i.made.items c.in_ok-make_column.field-0 _ inv.columns (omega arith) (omega (arith, inv.width, c.loop-i.columns.ok.0)) c.index-fields-i.is c.index_mut.ensures.value column);
      hold = hold.2;
      heights = rw items (height-push c.args.height c.loop-i.made.items c.in_ok-make_column.field-0 c.index-fields-i.result c.index_mut.result.now.items inv.heights column hold.1);
    }
