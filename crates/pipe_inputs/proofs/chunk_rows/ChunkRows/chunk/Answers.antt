use Rattle.std.proofs.Common.{sym, ap}
use Rattle.pipe_columns.specs.Row.{Row}
use Rattle.pipe_inputs.proofs.CellFacts.{seen_at}
use Rattle.pipe_inputs.proofs.chunk_rows.ChunkRows.chunk.Goals as goal

pub returns : goal.returns
returns c = λ n lt. ap (λ (r : Row). r.place) (seen_at c.args.self.now c.self.inside.index c.self.inside.height c.self.inside.keys.items c.self.inside.inputs.items n c.self.view_is lt)
