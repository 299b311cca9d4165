use Rattle.std.proofs.Common.{◌≡◌, ◌∙◌, ◌<◌, ◌≤◌, ℕ, length, get_or, List, sym, ap, arith}
use Rattle.pipe_columns.specs.declared.any_value.AnyValue.{AnyValue}
use Rattle.pipe_columns.specs.Frame.{value_at}
use Rattle.pipe_columns.specs.Row.{Row}
use Rattle.pipe_exprs.specs.declared.column_values.ColumnValues.{ColumnValues}
use Rattle.pipe_exprs.specs.Evaluated.{items_of}
use Rattle.pipe_inputs.proofs.RunFacts.{cell-at, cell-past}
use Rattle.pipe_inputs.proofs.CellFacts.{seen_at}
use Rattle.pipe_inputs.proofs.chunk_rows.ChunkRows.key_values.Goals as goal

pub returns-in-Some : goal.returns-in-Some
returns-in-Some c = λ n lt.
    let ks : List ColumnValues = c.self.inside.keys.items in
    let i = c.args.i in
    let d : ColumnValues = c.in-Some.values.now in
    let within : i < length ks = omega (arith, c.in-Some.ensures.lookup.3.0, ap (λ (l : List ColumnValues). length l) c.deref.ensures.value) in
    let is : d ≡ get_or ks i d = c.in-Some.ensures.lookup.1 ∙ ap (λ (l : List ColumnValues). get_or l i d) c.deref.ensures.value in
    let read = seen_at c.args.self.now c.self.inside.index c.self.inside.height ks c.self.inside.inputs.items n c.self.view_is lt in
    ap (λ (vs : List AnyValue). value_at vs n) c.as_slice.ensures ∙ ap (λ (v : ColumnValues). value_at (items_of v) n) is
    ∙ sym (cell-at ks n i d within) ∙ sym (ap (λ (r : Row). value_at r.key i) read)

pub returns-in-None : goal.returns-in-None
returns-in-None c = λ n lt.
    let ks : List ColumnValues = c.self.inside.keys.items in
    let past : length ks ≤ c.args.i = omega (arith, c.in-None.ensures.lookup.3, ap (λ (l : List ColumnValues). length l) c.deref.ensures.value) in
    let read = seen_at c.args.self.now c.self.inside.index c.self.inside.height ks c.self.inside.inputs.items n c.self.view_is lt in
    sym (cell-past ks n c.args.i past) ∙ sym (ap (λ (r : Row). value_at r.key c.args.i) read)
