use Rattle.pipe_model.proofs.RowPlaces.{rows-ascend, rows-distinct}
use Rattle.pipe_model.proofs.group_laws.places_of_rows.Goals as goal

pub returns-clause-ascend : goal.returns-clause-ascend
returns-clause-ascend c = rows-ascend

pub returns-clause-distinct : goal.returns-clause-distinct
returns-clause-distinct c = rows-distinct
