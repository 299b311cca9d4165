use Rattle.std.proofs.Common.{◌≡◌}
use Rattle.pipe_group_by.specs.Typed.{no_journals}
use Rattle.pipe_group_by.proofs.typed_finish.no_journals.Given as goal

-- so many journals without an event
abbrev pub invariant-loop-partition : goal.invariant-loop-partition
invariant-loop-partition l = l.journals.items ≡ no_journals l._partition
