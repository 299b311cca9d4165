use Rattle.memory_runs.specs.TextRuns.{text_file}
use Rattle.memory_states.specs.Calls.{save_asked}
use Rattle.memory_states.proofs.put.save_into.Goals as goal

pub returns : goal.returns
returns c = record {
  given = c.put_ended.ensures.given (save_asked c.args.query.now c.args.first) (text_file c.args.text.now) c.save.ensures.text c.save.ensures.fault;
}
