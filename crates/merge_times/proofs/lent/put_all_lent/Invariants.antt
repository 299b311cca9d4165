-- Room for one row is gone for each so far.
use Rattle.pipe_tables.proofs.FewerFacts.{TookFew}
use Rattle.merge_times.proofs.lent.put_all_lent.Given as goal

abbrev pub invariant-loop-row : goal.invariant-loop-row
invariant-loop-row l = TookFew l.fn.table l.table l.row
