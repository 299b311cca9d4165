use Rattle.lavzimo_words.proofs.AskedLaws.{shown-there}
use Rattle.lavzimo_words.proofs.laws.shown_columns_are_in_the_answer.Goals as goal

pub returns : goal.returns
returns c = shown-there
