use Rattle.lavzimo_words.proofs.AskedLaws.{key-count, keys-in-front}
use Rattle.lavzimo_words.proofs.laws.keys_come_first.Goals as goal

pub returns-clause-keys : goal.returns-clause-keys
returns-clause-keys c = key-count

pub returns-clause-answer : goal.returns-clause-answer
returns-clause-answer c = keys-in-front
