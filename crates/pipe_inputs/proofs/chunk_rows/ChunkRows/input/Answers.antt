use Rattle.std.proofs.Common.{◌∙◌, sym, ap}
use Rattle.pipe_columns.specs.Frame.{value_at}
use Rattle.pipe_columns.specs.Row.{Row}
use Rattle.pipe_inputs.specs.Cells.{cells}
use Rattle.pipe_inputs.proofs.CellFacts.{seen_at}
use Rattle.pipe_inputs.proofs.chunk_rows.ChunkRows.input.Goals as goal

pub returns : goal.returns
returns c =
    c.cell.ensures ∙ ap (λ lists. value_at (cells lists c.args.row) c.args.j) c.deref.ensures.value
    ∙ sym (ap (λ (r : Row). value_at r.inputs c.args.j) (seen_at c.args.self.now c.self.inside.index c.self.inside.height c.self.inside.keys.items c.self.inside.inputs.items c.args.row c.self.view_is c.requires))
