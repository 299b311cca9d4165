use Rattle.std.proofs.Common.{rules}
use Rattle.pipe_source.proofs.KeptFacts.{kept-start}
use Rattle.pipe_source.proofs.chunk_reader.ChunkReader.of_columns.Goals as goal

pub invariant_of-result : goal.invariant_of-result
invariant_of-result c =
    let none = c.none.ensures in
    (search rules, kept-start _ c.none.result none.at none.layout none.text none.starts none.chunk none.left)
