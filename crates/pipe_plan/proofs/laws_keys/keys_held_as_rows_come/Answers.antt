use Rattle.pipe_plan.proofs.KeptKeys.{kept-full, kept-known, kept-most, kept-new}
use Rattle.pipe_plan.proofs.laws_keys.keys_held_as_rows_come.Goals as goal

pub returns-clause-known : goal.returns-clause-known
returns-clause-known c = kept-known

pub returns-clause-new : goal.returns-clause-new
returns-clause-new c = kept-new

pub returns-clause-full : goal.returns-clause-full
returns-clause-full c = kept-full

pub returns-clause-most : goal.returns-clause-most
returns-clause-most c = kept-most
