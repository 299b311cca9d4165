use Rattle.std.proofs.Common.{length, rules}
use Rattle.std.proofs.Math.Seq.{take-length}
use Rattle.tool_shell.proofs.line.put_line.Goals as goal

pub returns-in-Ok-clause-front : goal.returns-in-Ok-clause-front
returns-in-Ok-clause-front g c = (length c.args.line.now, rw (take-length c.args.line.now) (search rules))

pub returns-in-Ok-clause-line : goal.returns-in-Ok-clause-line
returns-in-Ok-clause-line g c = λ kept. record {
  whole = λ calm. search rules;
  front = (length c.args.line.now, rw (take-length c.args.line.now) (search rules));
}
