use Rattle.pipe_inputs.proofs.CellFacts.{length-seen}
use Rattle.pipe_inputs.proofs.chunk_rows.ChunkRows.len.Goals as goal

pub returns : goal.returns
returns c = length-seen c.args.self.now c.self.inside.index c.self.inside.height c.self.inside.keys.items c.self.inside.inputs.items c.self.view_is
