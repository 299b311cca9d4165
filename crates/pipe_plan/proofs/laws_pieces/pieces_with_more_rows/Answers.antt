use Rattle.pipe_plan.proofs.Cutting.{full-append, rest-append}
use Rattle.pipe_plan.proofs.laws_pieces.pieces_with_more_rows.Goals as goal

pub returns-clause-full : goal.returns-clause-full
returns-clause-full c = full-append

pub returns-clause-rest : goal.returns-clause-rest
returns-clause-rest c = rest-append
