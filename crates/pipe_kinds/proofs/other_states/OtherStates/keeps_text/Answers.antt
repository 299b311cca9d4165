use Rattle.std.proofs.Common.{sym}
use Rattle.pipe_kinds.proofs.HeldFacts.{no-text, not-held, plain-other}
use Rattle.pipe_kinds.proofs.other_states.OtherStates.keeps_text.Goals as goal

pub returns-in_default : goal.returns-in_default
returns-in_default c = sym (no-text c.args.place c.args.value.now _ (plain-other c.args.self.now c.args.at (not-held c.args.self.now c.in_default.not-First c.in_default.not-Last)))
