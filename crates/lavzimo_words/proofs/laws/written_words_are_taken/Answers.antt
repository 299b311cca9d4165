use Rattle.lavzimo_words.proofs.AskedBack.{written-asked}
use Rattle.lavzimo_words.proofs.laws.written_words_are_taken.Goals as goal

pub returns : goal.returns
returns c = λ uses files writable askable some. written-asked uses writable askable files some
