use Rattle.tool_run.proofs.FeedFacts.{ends-told}
use Rattle.tool_run.proofs.read_round.read_round.Goals as goal

pub returns-in-Err-clause-ends : goal.returns-in-Err-clause-ends
returns-in-Err-clause-ends g c =
    ends-told c.args.before (g.I.InputFiles.told c.args.input.now) c.args.reader.now c.args.most c.in-Err.error c.ending_behind.result c.deref.result.now c.ending_behind.ensures.ends
    (rw c.deref.ensures.value c.in-Err.ensures.stopped)
