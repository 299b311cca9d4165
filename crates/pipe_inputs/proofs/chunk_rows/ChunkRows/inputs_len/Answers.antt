use Rattle.pipe_inputs.proofs.CellFacts.{inputs-seen}
use Rattle.pipe_inputs.proofs.chunk_rows.ChunkRows.inputs_len.Goals as goal

pub returns : goal.returns
returns c = rw (c.len.ensures, c.self.inside.inputs.ok.0) (inputs-seen c.args.self.now c.self.inside.index c.self.inside.height c.self.inside.keys.items c.self.inside.inputs.items c.self.view_is)
