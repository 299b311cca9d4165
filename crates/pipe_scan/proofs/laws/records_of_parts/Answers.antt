use Rattle.pipe_scan.proofs.Cuts.{cut-records}
use Rattle.pipe_scan.proofs.laws.records_of_parts.Goals as goal

pub returns : goal.returns
returns c = λ xs ys h e. cut-records xs ys h e
