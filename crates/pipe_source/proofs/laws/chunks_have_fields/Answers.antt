use Rattle.pipe_source.proofs.ChunksFit.{chunks-fit, rest-fit}
use Rattle.pipe_source.proofs.laws.chunks_have_fields.Goals as goal

pub returns-clause-all : goal.returns-clause-all
returns-clause-all c = chunks-fit

pub returns-clause-rest : goal.returns-clause-rest
returns-clause-rest c = rest-fit
