use Rattle.pipe_plan.proofs.Fronts.{full-on, kept-on, overflow-on, rows-on, taken-on}
use Rattle.pipe_plan.proofs.laws_rounds.rows_of_longer_runs.Goals as goal

pub returns-clause-rows : goal.returns-clause-rows
returns-clause-rows c = λ r s w on. rows-on r s on w

pub returns-clause-kept : goal.returns-clause-kept
returns-clause-kept c = λ r s w on. kept-on r s on w

pub returns-clause-overflow : goal.returns-clause-overflow
returns-clause-overflow c = λ r s w p on. overflow-on r s on w p

pub returns-clause-full_pieces : goal.returns-clause-full_pieces
returns-clause-full_pieces c = λ r s w p on some. full-on r s on w p some

pub returns-clause-taken : goal.returns-clause-taken
returns-clause-taken c = λ r s w on. taken-on r s on w
