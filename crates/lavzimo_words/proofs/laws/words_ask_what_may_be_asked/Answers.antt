use Rattle.lavzimo_words.proofs.AskableFacts.{words-askable}
use Rattle.lavzimo_words.proofs.laws.words_ask_what_may_be_asked.Goals as goal

pub returns : goal.returns
returns c = words-askable
