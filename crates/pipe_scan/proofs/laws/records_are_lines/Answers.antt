use Rattle.pipe_scan.proofs.Lines.{records-plain}
use Rattle.pipe_scan.proofs.laws.records_are_lines.Goals as goal

pub returns : goal.returns
returns c = λ xs h. records-plain xs h
