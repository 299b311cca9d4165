use Rattle.pipe_writers.proofs.WriterFacts.{finish_stands}
use Rattle.pipe_writers.proofs.line_writer.LineWriterSinkWriter._finish.Goals as goal

pub returns-clause-stands : goal.returns-clause-stands
returns-clause-stands g c rows since put =
    let e = c.put_head-result.ensures in
    rw e.lines (finish_stands _ _ _ rows since c.args.self.now.calls c.put_head-result.result c.is_err-self.result c.put_head-result.new.self.calls.begun e.tells c.requires.unrefused c.requires.unfinished c.is_err-self.ensures.value e.all e.front put)
