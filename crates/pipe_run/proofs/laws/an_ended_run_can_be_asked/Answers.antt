use Rattle.std.proofs.Common.{[], arith, false}
use Rattle.pipe_run.proofs.EndedSource.{ended-rows, ended-source}
use Rattle.pipe_run.proofs.laws.an_ended_run_can_be_asked.Goals as goal

pub returns-clause-asked : goal.returns-clause-asked
returns-clause-asked c = λ r query closed local slice e.
    ended-source r query closed local slice e.run e.of_query e.shut e.whole e.shape e.kept e.held e.few

pub returns-clause-rows : goal.returns-clause-rows
returns-clause-rows c = λ r query closed local slice e tell. record {
  some = omega (arith, e.whole.count, e.run.limits.partitions);
  rows = ended-rows r query closed local slice e.run e.of_query e.shut e.whole e.shape e.kept e.held tell e.sound e.chunks;
  placed = λ p d lt. absurd (omega (arith, lt));
}
