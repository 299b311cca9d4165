use Rattle.lavzimo_rows.proofs.ShownLaws.{ascending, once}
use Rattle.lavzimo_rows.proofs.laws.rows_stand_in_order.Goals as goal

pub returns-clause-once : goal.returns-clause-once
returns-clause-once c = once

pub returns-clause-ascending : goal.returns-clause-ascending
returns-clause-ascending c columns keys rows apart = ascending keys rows apart
