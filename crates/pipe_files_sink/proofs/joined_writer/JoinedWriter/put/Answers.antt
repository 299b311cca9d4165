use Rattle.std.proofs.Common.{rules}
use Rattle.pipe_lines.specs.Rows.{frame_rows}
use Rattle.pipe_files_sink.proofs.JoinedFacts.{completed-fits, on-err, put-front, put-written, still-awaits}
use Rattle.pipe_files_sink.proofs.joined_writer.JoinedWriter.put.Goals as goal

pub returns-in_err-all-clause-front : goal.returns-in_err-all-clause-front
returns-in_err-all-clause-front g c = on-err c.from_residual.result (λ rows since put.
    put-front (g.W.SinkWriter.stands c.self.inside.writer) c.self.inside.rows.waiting rows since (rw (← c.self.view_is) at put) (frame_rows c.args.frame))

pub _write_batch-requires-clause-fits : goal._write_batch-requires-clause-fits
_write_batch-requires-clause-fits g c =
    completed-fits _ c.self.inside.rows c.args.frame c.in-Some.all c.self.invariant (rw (← c.self.view_is) at c.requires.takes.fits) (search rules)

pub invariant_of-self-in_default : goal.invariant_of-self-in_default
invariant_of-self-in_default g c =
    still-awaits _ c.self.inside.rows c.add.new.self c.args.frame c.self.invariant (rw (← c.self.view_is) at c.requires.takes.fits) (search rules)

pub returns-in_err-_write_batch-clause-front : goal.returns-in_err-_write_batch-clause-front
returns-in_err-_write_batch-clause-front g c = on-err c.from_residual-in_err-_write_batch.result (λ rows since put.
    put-written (g.W.SinkWriter.stands c.self.inside.writer) c.self.inside.rows.waiting rows since (rw (← c.self.view_is) at put) (g.W.SinkWriter.stands c._write_batch.new.self) (frame_rows c.args.frame) (frame_rows c.in-Some.all) (λ done here. c._write_batch.ensures.stands done since here) (search rules))
