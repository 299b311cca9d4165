use Rattle.std.proofs.Common.{sym}
use Rattle.pipe_kinds.proofs.HeldFacts.{no-text, not-other, plain-kind}
use Rattle.pipe_kinds.proofs.kind.KindStates.keeps_text.Goals as goal

pub returns-in_default : goal.returns-in_default
returns-in_default c = sym (no-text c.args.place c.args.value.now _ (plain-kind c.args.self.now c.args.at (not-other c.args.self.now c.in_default.not-Others)))
