use Rattle.std.proofs.Common.{sym, ap}
use Rattle.pipe_columns.specs.Row.{Row}
use Rattle.pipe_inputs.proofs.CellFacts.{seen_at}
use Rattle.pipe_inputs.proofs.chunk_rows.ChunkRows.place.Goals as goal

pub returns : goal.returns
returns c =
    sym (ap (λ (r : Row). r.place) (seen_at c.args.self.now c.self.inside.index c.self.inside.height c.self.inside.keys.items c.self.inside.inputs.items c.args.row c.self.view_is c.requires.there))
