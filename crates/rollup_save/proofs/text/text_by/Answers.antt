use Rattle.std.proofs.Common.{refl}
use Rattle.pipe_io.proofs.TriedFacts.{front-none}
use Rattle.rollup_save.proofs.text.text_by.Goals as goal

pub returns-in_err-checked-clause-tried : goal.returns-in_err-checked-clause-tried
returns-in_err-checked-clause-tried g c = front-none _ _ c.args.reader.now.names refl
