use Rattle.pipe_lines.specs.Rows.{frame_rows}
use Rattle.pipe_writers.proofs.WriterFacts.{batch_stands}
use Rattle.pipe_writers.proofs.line_writer.LineWriterSinkWriter._write_batch.Goals as goal

pub returns-clause-stands : goal.returns-clause-stands
returns-clause-stands g c rows since put =
    let e = c.put_batch-result.ensures in
    rw e.lines (batch_stands _ _ _ rows (frame_rows c.args.df.now) since e.tells c.args.self.now.calls c.put_batch-result.result c.is_err-self.result c.requires.open.unrefused c.requires.open.unfinished c.is_err-self.ensures.value e.all e.front put)
