use Rattle.pipe_columns.proofs.PieceFacts.{pieces_are, pieces_joined}
use Rattle.pipe_columns.proofs.laws.pieces_of_a_list.Goals as goal

pub returns-clause-joined : goal.returns-clause-joined
returns-clause-joined g c n xs some = pieces_joined n some xs

pub returns-clause-some : goal.returns-clause-some
returns-clause-some g c n xs some = pieces_are n some xs
