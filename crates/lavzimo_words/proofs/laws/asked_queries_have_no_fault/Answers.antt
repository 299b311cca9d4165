use Rattle.lavzimo_words.proofs.AskedLaws.{no-fault}
use Rattle.lavzimo_words.proofs.laws.asked_queries_have_no_fault.Goals as goal

pub returns : goal.returns
returns c = no-fault
