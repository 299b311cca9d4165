use Rattle.pipe_model.specs.Rows.{rows}
use Rattle.pipe_model.proofs.GroupFacts.{answer-alike, groups-alike}
use Rattle.pipe_model.proofs.RowFacts.{answer_row-alike}
use Rattle.pipe_model.proofs.RowPlaces.{rows-distinct}
use Rattle.pipe_model.proofs.group_laws.same_counts_same_answer.Goals as goal

pub returns-clause-groups : goal.returns-clause-groups
returns-clause-groups c = groups-alike

pub returns-clause-row : goal.returns-clause-row
returns-clause-row c = answer_row-alike

pub returns-clause-answer : goal.returns-clause-answer
returns-clause-answer c = answer-alike

pub returns-clause-chunks : goal.returns-clause-chunks
returns-clause-chunks c = λ chunks rs q partitions alike. answer-alike (rows chunks q) rs q partitions alike (λ e. rows-distinct chunks q)
