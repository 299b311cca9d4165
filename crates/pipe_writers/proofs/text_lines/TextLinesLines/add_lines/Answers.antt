use Rattle.std.proofs.Common.{subst, sym}
use Rattle.std.specs.Prelude.{IfOk}
use Rattle.pipe_lines.specs.Lines.{GoesOn}
use Rattle.pipe_lines.specs.Rows.{frame_rows}
use Rattle.pipe_writers.specs.TextLines.{lines_shape}
use Rattle.pipe_writers.specs.declared.text_lines.TextLines.{TextLines}
use Rattle.pipe_writers.proofs.text_lines.TextLinesLines.add_lines.Goals as goal

pub returns-in-Json-clause-lines : goal.returns-in-Json-clause-lines
returns-in-Json-clause-lines c =
    subst (λ (l : TextLines). IfOk c.add_lines-in-Json.result (λ p. GoesOn (lines_shape l).line (frame_rows c.args.frame.now) c.args.from p.next c.args.text.items p.text.items)) (sym c.in-Json.is)
    c.add_lines-in-Json.ensures.lines
