use Rattle.pipe_plan.proofs.Cutting.{full-filled, full-unfilled, rest-filled, rest-unfilled}
use Rattle.pipe_plan.proofs.laws_pieces.pieces_with_one_row_more.Goals as goal

pub returns-clause-filled : goal.returns-clause-filled
returns-clause-filled c = full-filled

pub returns-clause-emptied : goal.returns-clause-emptied
returns-clause-emptied c = rest-filled

pub returns-clause-unfilled : goal.returns-clause-unfilled
returns-clause-unfilled c = full-unfilled

pub returns-clause-grown : goal.returns-clause-grown
returns-clause-grown c = rest-unfilled
