use Rattle.std.proofs.Common.{◌∙◌, sym, ap}
use Rattle.pipe_columns.specs.Row.{Row}
use Rattle.pipe_model.specs.Answer.{tuple_cmp}
use Rattle.pipe_inputs.specs.Cells.{cells}
use Rattle.pipe_inputs.proofs.CellFacts.{seen_at}
use Rattle.pipe_inputs.proofs.chunk_rows.ChunkRows.compare_key.Goals as goal

pub returns : goal.returns
returns c =
    c.compare_cells.ensures ∙ ap (λ lists. tuple_cmp (cells lists c.args.row) c.args.key.now) c.deref.ensures.value
    ∙ sym (ap (λ (r : Row). tuple_cmp r.key c.args.key.now) (seen_at c.args.self.now c.self.inside.index c.self.inside.height c.self.inside.keys.items c.self.inside.inputs.items c.args.row c.self.view_is c.requires))
