use Rattle.pipe_plan.proofs.Cutting.{joined-full_rest, joined-pieces, length-full, length-rest}
use Rattle.pipe_plan.proofs.laws_pieces.pieces_of_rows.Goals as goal

pub returns-clause-full : goal.returns-clause-full
returns-clause-full c = length-full

pub returns-clause-rest : goal.returns-clause-rest
returns-clause-rest c = length-rest

pub returns-clause-rows : goal.returns-clause-rows
returns-clause-rows c = joined-full_rest

pub returns-clause-pieces : goal.returns-clause-pieces
returns-clause-pieces c = joined-pieces
