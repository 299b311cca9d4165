use Rattle.rollup_save.proofs.RoundFacts.{stop-told}
use Rattle.rollup_save.proofs.next_round.next_round.Goals as goal

pub returns-in-Err-clause-ends : goal.returns-in-Err-clause-ends
returns-in-Err-clause-ends g c =
    stop-told (g.I.InputFiles.told c.args.input.now) c.args.saving.now.first c.args.most c.args.reader.now c.args.saving.now.taken c.deref.result.now c.in-Err.error c.ending_behind.result c.ending_behind.ensures.ends
    (rw c.deref.ensures.value c.in-Err.ensures.stopped)
