use Rattle.std.proofs.Common.{◌∙◌, rules, sym}
use Rattle.pipe_source.proofs.TextFields.{ascii-reads}
use Rattle.pipe_source.proofs.field_at.does_read_at.Goals as goal

pub returns-then-is_ascii : goal.returns-then-is_ascii
returns-then-is_ascii c = c.if-is_ascii.true ∙ sym (rw c.in-String.is (ascii-reads c.args.text.now c.args.low c.args.high (c.requires.ascii (search rules))))
