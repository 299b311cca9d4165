use Rattle.pipe_scan.proofs.NumberFacts.{short-number}
use Rattle.pipe_scan.proofs.laws.short_numbers_are_numbers.Goals as goal

pub returns : goal.returns
returns c = λ field n e. short-number field n e
