use Rattle.std.proofs.Common.{refl}
use Rattle.pipe_io.proofs.TriedFacts.{front-none}
use Rattle.summary_answer.proofs.on_store.answer_add.Goals as goal

pub returns-in_default-clause-tried : goal.returns-in_default-clause-tried
returns-in_default-clause-tried g c = front-none _ _ c.args.question.files.items refl

pub returns-clause-tried : goal.returns-clause-tried
returns-clause-tried g c = front-none _ _ c.args.question.files.items refl
