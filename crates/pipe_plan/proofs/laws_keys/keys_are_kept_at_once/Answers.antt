use Rattle.pipe_plan.proofs.AllRows.{overflow-typed}
use Rattle.pipe_plan.proofs.KeptKeys.{kept-at-once, keys-equal}
use Rattle.pipe_plan.proofs.laws_keys.keys_are_kept_at_once.Goals as goal

pub returns-clause-decided : goal.returns-clause-decided
returns-clause-decided c = kept-at-once

pub returns-clause-equal : goal.returns-clause-equal
returns-clause-equal c = keys-equal

pub returns-clause-typed : goal.returns-clause-typed
returns-clause-typed c = overflow-typed
