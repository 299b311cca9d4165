use Rattle.std.proofs.lemmas.List.{get_or_default, get_or_past}
use Rattle.pipe_plan.specs.declared.event.SpillAction.TheVariants as action
use Rattle.std.proofs.Common.{[]}
use Rattle.std.specs.List.{slice_index_or}
use Rattle.pipe_plan.proofs.laws_turns.rules_follow_lists.Goals as goal

pub returns-clause-listed : goal.returns-clause-listed
returns-clause-listed c = λ actions rules w turn lt. get_or_default (slice_index_or actions w []) turn (slice_index_or rules w action.None) action.None lt

pub returns-clause-past : goal.returns-clause-past
returns-clause-past c = λ actions rules w turn le. get_or_past (slice_index_or actions w []) turn (slice_index_or rules w action.None) le
