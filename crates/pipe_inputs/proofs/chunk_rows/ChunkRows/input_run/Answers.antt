use Rattle.std.proofs.Common.{◌≡◌, ◌∙◌, ◌+◌, ◌-◌, ◌<◌, ◌≤◌, ℕ, Bor, List, length, take, drop, get_or, sym, ap, arith, subst}
use Rattle.std.specs.Slice.{IsGetRangeResult}
use Rattle.pipe_columns.specs.declared.any_value.AnyValue.{AnyValue}
use Rattle.pipe_exprs.specs.declared.column_values.ColumnValues.{ColumnValues}
use Rattle.pipe_exprs.specs.Evaluated.{items_of}
use Rattle.pipe_inputs.specs.RowRuns.{run_values}
use Rattle.pipe_inputs.proofs.RunFacts.{if-part, run-is}
use Rattle.pipe_inputs.proofs.chunk_rows.ChunkRows.input_run.Goals as goal

pub returns : goal.returns
returns c =
    let lists : List ColumnValues = c.self.inside.inputs.items in
    let j = c.args.j in
    let row = c.args.row in
    let len = c.args.len in
    let d : ColumnValues = c.in_ok-get.field-0.now in
    let within : j < length lists = omega (arith, c.in_ok-get.ensures.lookup.3.0, ap (λ (l : List ColumnValues). length l) c.deref.ensures.value) in
    let is : d ≡ get_or lists j d = c.in_ok-get.ensures.lookup.1 ∙ ap (λ (l : List ColumnValues). get_or l j d) c.deref.ensures.value in
    let values : c.as_slice.result.now ≡ items_of (get_or lists j d) = c.as_slice.ensures ∙ ap items_of is in
    let to : c.in_ok-checked_add.field-0 ≡ row + len = omega (arith, c.in_ok-checked_add.ensures) in
    if-part c.get-2.result c.as_slice.result.now row (row + len) (λ v. v.now ≡ run_values c.args.self.now row len j)
    (subst (λ (m : ℕ). IsGetRangeResult c.as_slice.result.now row m c.get-2.result) to c.get-2.ensures.lookup)
    (λ (x : Bor (List AnyValue)) le few part.
    let size : row + len - row ≡ len = omega arith in
    part ∙ (λ k. take (size k) (drop row (values k)))
    ∙ run-is c.args.self.now c.self.inside.index c.self.inside.height c.self.inside.keys.items lists c.self.view_is j d within row len c.requires (omega (arith, few, ap (λ (l : List AnyValue). length l) values)))
