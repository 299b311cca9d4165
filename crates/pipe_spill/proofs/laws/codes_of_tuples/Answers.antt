-- Codes are ordered as tuples, and read in one way alone.
use Rattle.pipe_spill.proofs.CodeOrder.{codes_injective, codes_no_front, codes_ordered}
use Rattle.pipe_spill.proofs.laws.codes_of_tuples.Goals as goal

pub returns-clause-injective : goal.returns-clause-injective
returns-clause-injective c = codes_injective

pub returns-clause-no_front : goal.returns-clause-no_front
returns-clause-no_front c = codes_no_front

pub returns-clause-ordered : goal.returns-clause-ordered
returns-clause-ordered c = codes_ordered
