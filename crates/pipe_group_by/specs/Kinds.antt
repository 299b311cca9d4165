-- The kinds of runs.
use Rattle.pipe_run.specs.Fed.{FedSeen}
use Rattle.pipe_group_by.specs.declared.group_by_run.Kind.{Kind}
use Rattle.pipe_group_by.specs.declared.group_by_run.Kind.TheVariants as kind

-- what contracts see of a run, whatever its kind of sink
abbrev pub seen_of : {S : Type 0} → Kind S → FedSeen
seen_of (kind.Generic run) = run
seen_of (kind.Typed run) = run
