use Rattle.pipe_sinks.proofs.PlacedFacts.{rowless-placed, rowless-taken}
use Rattle.pipe_sinks.proofs.laws.chunks_without_rows_change_nothing.Goals as goal

pub returns-clause-taken : goal.returns-clause-taken
returns-clause-taken c = λ r chunk fits none few. rowless-taken r chunk fits none few

pub returns-clause-rows : goal.returns-clause-rows
returns-clause-rows c = λ q taken chunk none. rowless-placed q taken chunk none
