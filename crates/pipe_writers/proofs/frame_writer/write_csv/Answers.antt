use Rattle.std.proofs.Common.{subst, List, ℕ}
use Rattle.pipe_writers.proofs.TextFacts.{on-err}
use Rattle.std.specs.Io.KnownBytes.{Appends}
use Rattle.pipe_io.specs.Output.{WroteFront}
use Rattle.pipe_writers.proofs.TextFacts.{csv-of-frame}
use Rattle.pipe_writers.proofs.frame_writer.write_csv.Goals as goal

pub returns-in_err-send_lines-clause-front : goal.returns-in_err-send_lines-clause-front
returns-in_err-send_lines-clause-front g c = on-err c.from_residual-in_err-send_lines.result
    (subst (λ (text : List ℕ). WroteFront (g.O.Output.told c.args.output.now) (g.O.Output.told c.send_lines.new.output) text)
    (csv-of-frame c.in_ok-schema_of.field-0 c.args.frame.now c.in_ok-schema_of.ensures) c.in_err-send_lines.ensures.front)

pub returns-clause-all : goal.returns-clause-all
returns-clause-all g c =
    subst (λ (text : List ℕ). Appends (g.O.Output.told c.args.output.now) (g.O.Output.told c.send_lines.new.output) text)
    (csv-of-frame c.in_ok-schema_of.field-0 c.args.frame.now c.in_ok-schema_of.ensures) c.in_ok-send_lines.ensures.all
