use Rattle.std.proofs.Common.{◌∙◌, ◌+◌, ◌≤◌, ap, refl, subst, sym, arith, List, vec_len, vec_capacity}
use Rattle.std.specs.List.{All}
use Rattle.std.proofs.lemmas.List.Elements.{All-push}
use Rattle.pipe_groups.specs.declared.unfinished.Unfinished.{Unfinished}
use Rattle.pipe_groups.specs.Columns.{columns_of_unfinished}
use Rattle.pipe_groups.proofs.ColumnRows.{opened-more}
use Rattle.pipe_groups.proofs.unfinished.opened.Goals as goal

pub loop-field-preserved : goal.loop-field-preserved
loop-field-preserved c =
    let x : Unfinished = record { field = record { name = c.in_ok-name.name; dtype = c.field-item.result.dtype }; values = c.in_ok-values.values } in
    let old : List Unfinished = c.loop-field.columns.items in
    let P : Unfinished → Type 0 = λ u. vec_len u.values + c.args.height ≤ vec_capacity u.values in
    record {
      columns = ap columns_of_unfinished c.in_ok-push.ensures.items
          ∙ opened-more old x c.args.fields.now c.loop-field.field-index c.field-item.result c.loop-field-test.true c.field-item.is c.in_ok-name.ensures refl c.in_ok-values.ensures.items c.loop-field.invariant.columns;
      room = subst (All P) (sym c.in_ok-push.ensures.items) (All-push P old x c.loop-field.invariant.room (omega (arith, c.in_ok-values.ensures.len, c.in_ok-values.ensures.capacity)));
    }
