use Rattle.std.proofs.Common.{refl}
use Rattle.pipe_io.proofs.TriedFacts.{front-none}
use Rattle.summary_words.specs.Asked.{asked, files_asked}
use Rattle.summary_answer.proofs.summary.run.Goals as goal

pub returns-in-Err-clause-tried : goal.returns-in-Err-clause-tried
returns-in-Err-clause-tried g c = front-none _ _ (files_asked (asked c.args.words.now)) refl
