use Rattle.summary_add.proofs.EndFacts.{stop-told}
use Rattle.summary_add.proofs.next_round.next_round.Goals as goal

pub returns-in-Err-clause-ends : goal.returns-in-Err-clause-ends
returns-in-Err-clause-ends g c =
    stop-told (g.I.InputFiles.told c.args.input.now) c.args.adding.now.rows c.args.adding.now.first c.args.most c.args.reader.now c.args.adding.now.taken c.deref.result.now c.in-Err.error c.ending_behind.result c.ending_behind.ensures.ends
    (rw c.deref.ensures.value c.in-Err.ensures.stopped)
