use Rattle.pipe_groups.proofs.PartsFacts.{parts-once, parts-same, placed-joined}
use Rattle.pipe_groups.proofs.part_laws.how_placed_rows_join.Goals as goal

pub returns-clause-joined : goal.returns-clause-joined
returns-clause-joined c = placed-joined

pub returns-clause-keys : goal.returns-clause-keys
returns-clause-keys c = parts-same

pub returns-clause-once : goal.returns-clause-once
returns-clause-once c = parts-once
