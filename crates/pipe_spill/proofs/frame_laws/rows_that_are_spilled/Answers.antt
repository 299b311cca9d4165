-- What becomes of rows when they are spilled.
use Rattle.pipe_spill.proofs.SpilledRows.{joined_spilled, rows_have_inputs, spilled_are_rows, spilled_injective, spilled_is_row}
use Rattle.pipe_spill.proofs.frame_laws.rows_that_are_spilled.Goals as goal

pub returns-clause-row : goal.returns-clause-row
returns-clause-row c = spilled_is_row

pub returns-clause-rows : goal.returns-clause-rows
returns-clause-rows c = spilled_are_rows

pub returns-clause-inputs : goal.returns-clause-inputs
returns-clause-inputs c = rows_have_inputs

pub returns-clause-injective : goal.returns-clause-injective
returns-clause-injective c = spilled_injective

pub returns-clause-joined : goal.returns-clause-joined
returns-clause-joined c = joined_spilled
