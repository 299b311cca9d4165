use Rattle.pipe_source.specs.CsvChunks.{first_place}
use Rattle.pipe_source.proofs.NamedAgree.{files-agree}
use Rattle.pipe_source.proofs.named_laws.names_agree_with_order.Goals as goal

pub returns : goal.returns
returns c = λ files names schema options wanted found few stops. files-agree wanted options schema files first_place names found few stops
